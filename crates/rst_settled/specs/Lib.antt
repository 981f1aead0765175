-- What a reader has to believe: all of it. The premises of the laws, first what elaboration gives, then order.
pub mod Designs
pub mod Orderly
-- What the laws say.
pub mod Settling
