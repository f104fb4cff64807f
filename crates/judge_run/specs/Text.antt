-- The lines that the program prints for an order: `logged_line` of a line of the log, `place_line` of a number in the order. Assumes nothing.
use Rattle.std.specs.Prelude.{ℕ, List, []}
use Rattle.protocol.specs.Tools.{if, within}
use Rattle.lines.specs.Lines.{entry_line}
use Rattle.judging.specs.declared.Logged.{Logged}
use Rattle.judging.specs.Logs.{lines_of, line_at}

-- "its line number, W or R, count, writer, value"
unfoldable pub logged_line : ℕ → Logged → List ℕ
logged_line number x = entry_line number x.kind x.entry

-- of a number in an order; nothing for the zeros after it
unfoldable pub place_line : List ℕ → ℕ → List ℕ
place_line log number = if (within 1 (lines_of log) number) (logged_line number (line_at log number)) []
