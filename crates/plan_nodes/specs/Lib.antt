pub use Rattle.told_rows.specs.Grows
pub use Rattle.told_rows.specs.Rows
pub use Rattle.port_feeds.specs.declared.filled.Filled
pub use Rattle.port_feeds.specs.Filled as PortFeedsFilled
pub use Rattle.node_works.specs.Tasks
pub use Rattle.node_works.specs.Tables
pub use Rattle.told_rows.specs.Plans
pub use Rattle.told_rows.specs.Shares
pub use Rattle.row_counts.specs.Counts
pub mod Made
pub mod Ports
pub mod Nodes
