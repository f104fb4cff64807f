-- The rules of one server. Assumes nothing.
use Rattle.std.specs.Prelude.{ℕ, Bool, not, ◌&&◌, ltb, eqb, None, Some}
use Rattle.std.specs.Int.Bits.{bit_or}
use Rattle.protocol.specs.Types.{Entry, Server, Message}
pub use Rattle.protocol.specs.declared.Reply.{Reply}
use Rattle.protocol.specs.Tools.{if, within, holds, bit_of, Result, done, guard}
use Rattle.protocol.specs.Entries.{below, larger}

-- "READ (1)", "WRITE (2)", "END (3)", "START (4)", "5 answer"
abbrev pub READ : ℕ
READ = 1

abbrev pub WRITE : ℕ
WRITE = 2

abbrev pub END : ℕ
END = 3

abbrev pub START : ℕ
START = 4

abbrev pub ANSWER : ℕ
ANSWER = 5

-- kind 1 to 3
abbrev pub is_request : ℕ → Bool
is_request kind = within READ END kind

-- "it answers with its view and entry": the answer of a, which is then b
abbrev pub answering : Server → Server → Reply
answering a b = record { server = b; answer = Some (record { view = a.view; entry = a.entry }) }

-- The three parts of WRITE, in the sequence of document 000 (figure 10, write). Compare the held stamp: "if (m_ts < ts)".
unfoldable pub comparing : Server → Entry → Bool
comparing a e = below a.entry e

-- Replace: "then (m_ts, m_D) := (ts, D)". So it "keeps the larger stamp of its own and the written entry (equal stamps: its own)".
unfoldable pub replacing : Server → Entry → Bool → Server
replacing a e later = record { view = a.view; faulty = a.faulty; keys = a.keys; entry = if later e a.entry }

-- Acknowledge: "return WRITE-ACK". It "then answers likewise", with the entry that it holds now.
abbrev pub acknowledging : Server → Reply
acknowledging a = answering a a

-- "then gives the key up"
unfoldable pub without_key : Server → Server
without_key a = record { view = a.view; faulty = a.faulty; keys = record { 0 = 0 }; entry = a.entry }

-- "takes view t and its key, drops any older key, and keeps the larger stamp as in WRITE"
unfoldable pub joining : Server → Message → Server
joining a m = record { view = m.view; faulty = a.faulty; keys = record { 0 = bit_of m.view.0 }; entry = larger a.entry m.entry }

-- "A START of view t still gives it key t ...; nothing else of its record changes."
unfoldable pub gathering : Server → Message → Server
gathering a m = record { view = a.view; faulty = a.faulty; keys = record { 0 = bit_or a.keys.0 (bit_of m.view.0) }; entry = a.entry }

-- "READ (1): it answers with its view and entry."
abbrev pub read : Server → Message → Result Reply
read a m = done (answering a a)

-- "WRITE (2): it first keeps the larger stamp ..., then answers likewise."
abbrev pub write : Server → Entry → Reply
write a e = acknowledging (replacing a e (comparing a e))

-- "END (3) of its view: it answers likewise, then gives the key up."
abbrev pub end : Server → Message → Result Reply
end a m = guard (eqb m.view.0 a.view.0) 7 (done (answering a (without_key a)))

-- "START (4) of view t: a member of N(t) whose own view is below t ... There is no answer."
-- A faulty one: "if it is in N(t), its recorded view is below t and it lacks the key".
abbrev pub start : Server → Message → Bool → Result Reply
start a m member =
    guard (member && ltb a.view.0 m.view.0) 7
    (if a.faulty
    (guard (not (holds a.keys.0 m.view.0)) 7 (done (record { server = gathering a m; answer = None })))
    (done (record { server = joining a m; answer = None })))

-- "A correct server serves kinds 1 to 3 while it holds the key of its own view; START asks for no key."
-- Refusals: 5, an answer or no message; "6, the server is faulty and the kind is 1 to 3; 7, the server's rule does not apply".
unfoldable pub serve : Server → Message → Bool → Result Reply
serve a m member =
    guard (within READ START m.kind) 5
    (if (eqb m.kind START) (start a m member)
    (guard (not a.faulty) 6
    (guard (holds a.keys.0 a.view.0) 7
    (if (eqb m.kind READ) (read a m)
    (if (eqb m.kind WRITE) (done (write a m.entry)) (end a m))))))

-- "It may answer any request of kind 1 to 3 with any view whose key it holds": 5, 6, 9
unfoldable pub may_answer : Server → ℕ → Message → Bool → Result Server
may_answer a t m source =
    guard (is_request m.kind && source) 5 (guard a.faulty 6 (guard (holds a.keys.0 t) 9 (done a)))
