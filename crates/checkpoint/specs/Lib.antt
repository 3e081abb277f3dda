-- Callers read Form and Text, and of Taking what a reader took; of Writing what a writer has left; Lines, the texts of the lines and what
-- has a text, and Reading, what a line says. Only private contracts cite Steps, `part_by`, the functions of single fields, and Pieces.
-- Room says when a buffer has none for a text.
pub mod Form
pub mod Text
pub mod Steps
pub mod Taking
pub mod Writing
pub mod Values
pub mod Lines
pub mod Pieces
pub mod Reading
pub mod Room
