-- The declared records of the crate protocol, under one name. Assumes nothing.
pub use Rattle.protocol.specs.declared.Entry.{Entry}
pub use Rattle.protocol.specs.declared.View.{View}
pub use Rattle.protocol.specs.declared.Server.{Server}
pub use Rattle.protocol.specs.declared.Phase.{Phase}
pub use Rattle.protocol.specs.declared.Phase.TheVariants.{Idle, Reading, Writing}
pub use Rattle.protocol.specs.declared.Client.{Client}
pub use Rattle.protocol.specs.Types.{Ending}
pub use Rattle.std.specs.Prelude.{None, Some}
pub use Rattle.protocol.specs.declared.Administrator.{Administrator}
pub use Rattle.protocol.specs.declared.Message.{Message}
