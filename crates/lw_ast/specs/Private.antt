-- Words that private contracts and proofs alone use.
pub mod ScriptMachine
pub mod ReaderViews
