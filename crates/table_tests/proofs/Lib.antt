pub mod CallListLemmas
pub mod HandLemmas
