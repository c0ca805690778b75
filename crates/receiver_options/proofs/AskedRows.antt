-- Worked examples of what options ask for: by docs/FORMATS.md, which has their names and defaults.
use Rattle.std.proofs.Common.{◌≡◌, [], ◌∷◌, refl}
use Rattle.std.specs.Prelude.{pos, neg_ℤ, true, false, map, Some, None, codes, Bool}
use Rattle.clap.specs.Simple.{matches_of}
use Rattle.clap.specs.Walk.{walked}
use Rattle.clap.specs.declared.builder.value_parser.ValueParser.{ValueParser}
use Rattle.definitions.specs.Samples.{real1, real2, iq1, iq2}
use Rattle.receiver_options.specs.CommandLines.{receiver}
use Rattle.receiver_options.specs.Requests.{Asked, asked_in, recording_of, number_in, flag_in}
use Rattle.receiver_options.specs.Requests.{format_in, shares_by, paths_in}

defaults : asked_in []
    ≡ record { rate = 2046000; offset = 0; is_minus = false; packing = real1; shares = None }
defaults = refl

formats : map (λ name. format_in (Some name))
    (codes "real1" ∷ codes "real2" ∷ codes "iq1" ∷ codes "iq2" ∷ [])
    ≡ real1 ∷ real2 ∷ iq1 ∷ iq2 ∷ []
formats = refl

-- the greatest number and one more, a plus, no digit, and a letter
numbers : map (λ text. number_in (Some text) 7)
    (codes "4294967295" ∷ codes "4294967296" ∷ codes "+05" ∷ [] ∷ codes "1a" ∷ [])
    ≡ 4294967295 ∷ 7 ∷ 5 ∷ 7 ∷ 7 ∷ []
numbers = refl

flags : map flag_in (Some (codes "true") ∷ Some (codes "false") ∷ None ∷ [])
    ≡ true ∷ false ∷ false ∷ []
flags = refl

abbrev asked : Bool → Asked
asked is_minus =
    record { rate = 4092000; offset = 3; is_minus = is_minus; packing = iq2; shares = None }

-- `--minus` turns the offset alone
recordings : map (λ is_minus. recording_of (asked is_minus)) (false ∷ true ∷ [])
    ≡ record { rate = 4092000; offset = pos 3; packing = iq2 }
    ∷ record { rate = 4092000; offset = neg_ℤ (pos 3); packing = iq2 } ∷ []
recordings = refl

-- a digit from 1 to 8 for each of two clients, and four slots each without digits
shares : map (shares_by 2) (Some (codes "18") ∷ None ∷ Some (codes "09") ∷ Some (codes "19")
    ∷ Some (codes "1") ∷ Some (codes "181") ∷ Some (codes "1x") ∷ [])
    ≡ Some (1 ∷ 8 ∷ []) ∷ Some (4 ∷ 4 ∷ []) ∷ None ∷ None ∷ None ∷ None ∷ None ∷ []
shares = refl

-- what is found in the words of a command line
words : (names : ValueParser) → asked_in (matches_of (receiver names) (codes "receiver"
    ∷ codes "--offset" ∷ codes "511500" ∷ codes "--minus" ∷ codes "--shares" ∷ codes "8"
    ∷ codes "a.script" ∷ []))
    ≡ record {
      rate = 2046000;
      offset = 511500;
      is_minus = true;
      packing = real1;
      shares = Some (codes "8");
    }
unfolding walked
words names = refl

-- without words the parser fills in the defaults
no_words : (names : ValueParser) → asked_in (matches_of (receiver names) (codes "receiver" ∷ []))
    ≡ record { rate = 2046000; offset = 0; is_minus = false; packing = real1; shares = None }
unfolding walked
no_words names = refl

-- the scripts are the other words, in their order
scripts : (names : ValueParser) → paths_in (matches_of (receiver names) (codes "receiver"
    ∷ codes "b" ∷ codes "--minus" ∷ codes "a" ∷ [])) ≡ codes "b" ∷ codes "a" ∷ []
unfolding walked
scripts names = refl
