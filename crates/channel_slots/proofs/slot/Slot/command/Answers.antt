use Rattle.std.proofs.Common.{ap, arith, refl, sym, ◌∙◌}
use Rattle.std.specs.Prelude.{Some}
use Rattle.slot_protocol.specs.Commands.{request_in}
use Rattle.channel_slots.specs.Stages.{is_idle}
use Rattle.channel_slots.proofs.ObeyLemmas.{idle-refuses}
use Rattle.channel_slots.proofs.ReadyLemmas.{idle-is-quiet, idle-is-ready}
use Rattle.channel_slots.proofs.SlotLemmas.{life-now, has-life, answers}
use Rattle.channel_slots.proofs.SlotLemmas.{becomes-idle, prints, shown-stays}
use Rattle.channel_slots.proofs.slot.Slot.command.Goals as goal

pub returns-in-Acquire : goal.returns-in-Acquire
returns-in-Acquire c = rw (ap request_in c.in-Acquire.is) c.acquire.ensures

pub returns-in-Hold : goal.returns-in-Hold
returns-in-Hold c = rw (ap request_in c.in-Hold.is) c.hold.ensures

pub returns-in-Track : goal.returns-in-Track
returns-in-Track c = rw (ap request_in c.in-Track.is) c.track.ensures

pub returns-in-State : goal.returns-in-State
returns-in-State c = rw (ap request_in c.in-State.is) (record {
  answers = λ xs commands now s. c.state.ensures _ xs commands s;
  stands = λ xs commands now s. shown-stays _ xs commands _ s;
  refused = λ refusal. absurd refusal;
  ready = λ held first early begun ready. ready;
  waits = λ before. before;
})

pub returns-then-is_idle : goal.returns-then-is_idle
returns-then-is_idle c =
    rw (ap request_in c.in-Counts.is) (idle-refuses _ _ _
    (sym c.is_idle.ensures ∙ c.if-is_idle.true) _ (λ xs. refl) (λ last n. refl))

pub returns-else-is_idle : goal.returns-else-is_idle
returns-else-is_idle c =
    let on = sym c.is_idle.ensures ∙ c.if-is_idle.false in
    rw (ap request_in c.in-Counts.is) (record {
      answers = λ xs commands now s. answers _ xs commands _ s _ (Some _)
          (life-now _ xs commands _ s on);
      stands = λ xs commands now s. prints _ xs commands _ s on c.in-Counts.n _ refl refl;
      refused = λ refusal. absurd refusal;
      ready = λ held first early begun ready. ready;
      waits = λ before. before;
    })

pub returns-then-is_idle-2 : goal.returns-then-is_idle-2
returns-then-is_idle-2 c =
    rw (ap request_in c.in-Stop.is) (idle-refuses _ _ _
    (sym c.is_idle-in-Stop.ensures ∙ c.if-is_idle-2.true) _ (λ xs. refl) (λ last n. refl))

pub returns-else-is_idle-2 : goal.returns-else-is_idle-2
returns-else-is_idle-2 c =
    let on = sym c.is_idle-in-Stop.ensures ∙ c.if-is_idle-2.false in
    let idle = ap is_idle c.rest.ensures.stage in
    rw (ap request_in c.in-Stop.is) (record {
      answers = λ xs commands now s. answers _ xs commands _ s _ (Some _)
          (life-now _ xs commands _ s on);
      stands = λ xs commands now s.
          let i = has-life _ xs commands _ s on in
          becomes-idle _ xs commands _ s _ _ (Some i.life) _ i.of (life-now _ xs commands _ s on)
          refl idle;
      refused = λ refusal. absurd refusal;
      ready = λ held first early begun ready.
          idle-is-ready held first _ c.rest.new.self.stage idle;
      waits = λ before. idle-is-quiet _ c.rest.new.self.stage idle (omega (arith, c.requires));
    })
