-- Callers read Trades, Lines, ToCome, Summary and Counted. Words has the generator's words.
pub mod Words
pub mod Trades
pub mod Lines
pub mod ToCome
pub mod Summary
pub mod Counted
