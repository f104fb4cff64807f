-- The declared records, under one name. Assumes nothing.
use Rattle.std.specs.Prelude.{Option}
pub use Rattle.protocol.specs.declared.StampCount.{StampCount}
pub use Rattle.protocol.specs.declared.ViewNumber.{ViewNumber}
pub use Rattle.protocol.specs.declared.MessageNumber.{MessageNumber}
pub use Rattle.protocol.specs.declared.ServerNumber.{ServerNumber}
pub use Rattle.protocol.specs.declared.ServerSet.{ServerSet}
pub use Rattle.protocol.specs.declared.KeySet.{KeySet}
pub use Rattle.protocol.specs.declared.Stamp.{Stamp}
pub use Rattle.protocol.specs.declared.Entry.{Entry}
pub use Rattle.protocol.specs.declared.View.{View}
pub use Rattle.protocol.specs.declared.Server.{Server}
pub use Rattle.protocol.specs.declared.Phase.{Phase}
pub use Rattle.protocol.specs.declared.Phase.TheVariants.{Idle, Reading, Writing}
pub use Rattle.protocol.specs.declared.Client.{Client}
pub use Rattle.protocol.specs.declared.Administrator.{Administrator}
pub use Rattle.protocol.specs.declared.Message.{Message}
pub use Rattle.protocol.specs.declared.Step.{Step}
pub use Rattle.protocol.specs.declared.Range.{Range}
pub use Rattle.protocol.specs.declared.Shown.{Shown}
pub use Rattle.protocol.specs.declared.Reply.{Reply}
pub use Rattle.protocol.specs.declared.Choice.{Choice}
pub use Rattle.protocol.specs.declared.Closing.{Closing}
pub use Rattle.protocol.specs.declared.Closing.TheVariants.{WritesNext, Completed}

-- the number of the END, while the newest view is being ended
abbrev pub Ending : Type 0
Ending = Option MessageNumber
