-- What a client may ask of a slot. (This project's own.)
use Rattle.std.specs.Prelude.{ℕ, ℤ}
use Rattle.definitions.specs.Acquisition.{Plan}

-- how a slot is started: satellite, Doppler shift in Hz and half chip of the code, or a plan
pub data Start : Type 0 where
  hold : (prn : ℕ) → (doppler : ℤ) → (half_chip : ℕ) → Start
  track : (prn : ℕ) → (doppler : ℤ) → (half_chip : ℕ) → Start
  acquire : Plan → Start

pub data Request : Type 0 where
  begin : Start → Request
  counts : ℕ → Request
  state : Request
  stop : Request

pub record Command : Type 0 where
  pub slot : ℕ
  pub request : Request

-- a request at its time
pub record TimedRequest : Type 0 where
  pub time : ℕ
  pub request : Request
