-- What a reader must believe of netrun's run.
pub mod Sample
