pub mod Projected
pub mod Edges
pub mod Lacking
pub mod Ordered
pub mod MadeEdges
pub mod Batches
pub mod Nodes
pub mod Tables
