use Rattle.std.proofs.Common.{refl}
use Rattle.clap.specs.Matches.{found_of}
use Rattle.clap.specs.Values.{kind_of}
use Rattle.packer.specs.Endings.{with_options, without_options, without_words}
use Rattle.packer.proofs.program.carry_out.Goals as goal

pub returns-in-Err : goal.returns-in-Err
returns-in-Err g c = record {
  status = record {
    ending = without_words c.in-Err.failure;
    devices = (c.in-Err.ensures.fault, refl);
    by_ending = c.tell.ensures.status;
  };
}

pub returns-in-Ok-matches : goal.returns-in-Ok-matches
returns-in-Ok-matches g c = record {
  status = record {
    ending = with_options (found_of c.in-Ok-matches.matches) c.pack.result;
    devices = c.pack.ensures.carries_out;
    by_ending = c.tell-in-Ok-matches.ensures.status;
  };
}

pub returns : goal.returns
returns g c = record {
  status = record {
    ending = without_options c.refuse.ensures.status.0 (kind_of c.in-Err-matches.error);
    devices = refl;
    by_ending = c.refuse.ensures.status.1;
  };
}
