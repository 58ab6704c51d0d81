pub mod Trees
pub mod Functions
pub mod ScriptLexemes
pub mod ScriptGrammar
pub mod ScriptFaults
pub mod ScriptViews
pub mod Private
