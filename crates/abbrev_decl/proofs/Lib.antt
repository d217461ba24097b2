pub mod CountLaws
pub mod Forward
pub mod PairLaws
pub mod ShortPairs
pub mod WalkLaws
