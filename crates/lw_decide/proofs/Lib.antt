pub mod AnswerValidity
