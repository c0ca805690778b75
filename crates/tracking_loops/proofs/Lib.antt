pub mod WideLemmas
pub mod WindowLemmas
pub mod NewsLemmas
pub mod ErrorLemmas
pub mod SteeringLemmas
pub mod TrackingLemmas
