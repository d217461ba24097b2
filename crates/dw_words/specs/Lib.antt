pub mod Numbers
pub mod GivenWords
pub mod RefusalMessages
pub mod Parser
pub mod Requests
