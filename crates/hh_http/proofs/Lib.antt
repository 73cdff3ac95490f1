pub mod FieldFacts
pub mod HeadFacts
pub mod LaneFacts
pub mod LengthFacts
pub mod NumberFacts
