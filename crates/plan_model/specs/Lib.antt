-- Callers read these: what expressions, nodes and plans are and mean.
pub mod Fold
pub mod IsExpr
pub mod Expr
pub mod Lives
pub mod Amounts
pub mod RowOps
pub mod Keys
pub mod CellOps
pub mod Means
pub mod Groups
pub mod Shape
pub mod Nodes
pub mod Meaning
pub mod Typed
pub mod Reach
pub mod IsPlan
-- And these: the laws of arithmetic and of changes are stated in their words.
pub mod Arithmetic
pub mod Opens
pub mod Changes
pub mod ChangeWords
