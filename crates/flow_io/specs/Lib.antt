pub mod Bytes
pub mod Count
pub mod SinkPlan
pub mod SourcePlan
