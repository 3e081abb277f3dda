-- Callers read Rows, Payloads and PoolsView, and of Columns `IsColumn` and `with_cells`. Places is cited by private contracts.
pub mod Rows
pub mod Payloads
pub mod Columns
pub mod PoolsView
pub mod Places
