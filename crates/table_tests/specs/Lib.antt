pub mod States
pub mod CallLists
