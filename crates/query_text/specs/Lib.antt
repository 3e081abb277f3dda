-- Callers read IsTree, Spelling and IsParse; Words (which words there are, and those of a text), Forms and Between (what that means) and
-- Spots (what a word keeps); Token, TokenForm, Grammar, Fault, Limit and Answer. Private contracts alone cite Reading, Machine, Parsing
-- and Follows.
pub mod IsTree
pub mod Spelling
pub mod Reading
pub mod IsParse
pub mod Words
pub mod Spots
pub mod Forms
pub mod Between
pub mod Token
pub mod TokenForm
pub mod Grammar
pub mod Fault
pub mod Limit
pub mod Answer
pub mod Machine
pub mod Parsing
pub mod Follows
