-- The rules of single machines, chosen by number. Assumes nothing.
use Rattle.std.specs.Prelude.{ℕ, Bool, false, ◌&&◌, leb, eqb, None}
use Rattle.protocol.specs.declared.Stamp.{Stamp}
use Rattle.protocol.specs.declared.Entry.{Entry}
use Rattle.protocol.specs.declared.View.{View}
use Rattle.protocol.specs.declared.Server.{Server}
use Rattle.protocol.specs.declared.Client.{Client}
use Rattle.protocol.specs.declared.Administrator.{Administrator}
use Rattle.protocol.specs.declared.Message.{Message}
use Rattle.protocol.specs.Tools.{bit, if, Result, refused, done, guard, number_of}
use Rattle.protocol.specs.declared.Reply.{Reply}
use Rattle.protocol.specs.Entries.{empty, same}
use Rattle.protocol.specs.Clients.{Close}
use Rattle.protocol.specs.Steps.{write_step, read_step, deliver_step, take_step, false_step, view_step, give_up_step, restart_step}
use Rattle.checked.specs.Rules.{serve_rule, false_answer_rule, write_rule, read_rule, give_up_rule, close_rule, call_rule, restart_rule, advance_rule}

-- the record stays as it is, and nothing is answered by the rule itself
abbrev pub stays : Server → ℕ → Result Reply
stays a n = if (eqb n 0) (done (record { server = a; answer = None })) (refused n)

-- 3 deliver: the flag says whether the server is in the message's view; 6 false answer with the view t: the flag says whether
-- what it shows is the empty entry or that of a WRITE sent
unfoldable pub server_asked : Server → Message → ℕ → ℕ → ℕ → Result Reply
server_asked a m rule flag t =
    guard (leb flag 1) 3
    (if (eqb rule deliver_step) (guard (eqb t 0) 3 (serve_rule a m (eqb flag 1)))
    (guard (eqb rule false_step) 3 (stays a (number_of (false_answer_rule a t m (eqb flag 1))))))

-- a client that begins has its READ open
abbrev pub opens : Result Client → Result Close
opens (refused n) = refused n
opens (done c) = done (record { client = c; complete = false })

abbrev pub blank_stamp : Stamp → Bool
blank_stamp s = eqb s.count.0 0 && eqb s.writer 0

-- giving up: what the rule does not use is zero
unfoldable pub dropping_rule : Client → ℕ → ℕ → Entry → Result Close
dropping_rule c who n e = guard (eqb who 0) 3 (guard (eqb n 0) 3 (guard (same e empty) 3 (opens (give_up_rule c))))

-- 1 write of the entry's value, 2 read, 4 the close with an entry; n is the number of the message that it sends
unfoldable pub operation_rule : Client → ℕ → ℕ → ℕ → Entry → Bool → Result Close
operation_rule c rule who n e one =
    if (eqb rule take_step) (close_rule c who e one n)
    (guard (eqb who 0) 3
    (guard (blank_stamp e.stamp) 3
    (if (eqb rule write_step) (opens (write_rule c e.value n))
    (guard (eqb rule read_step) 3 (guard (eqb e.value 0) 3 (opens (read_rule c n)))))))

-- the flag is 0 or 1, and 0 but in a close
abbrev pub flag_fits : ℕ → ℕ → Bool
flag_fits rule flag = leb flag (bit (eqb rule take_step))

-- a client's rules: those on an operation, and 8 giving up; the flag says whether all answers of the chosen view carry the
-- entry and the view permits one exchange
unfoldable pub client_asked : Client → ℕ → ℕ → ℕ → Entry → ℕ → Result Close
client_asked c rule who n e flag =
    guard (flag_fits rule flag) 3 (if (eqb rule give_up_step) (dropping_rule c who n e) (operation_rule c rule who n e (eqb flag 1)))

-- 7 new view v, END being number n; 4 the close of END
unfoldable pub calling_rule : Administrator → ℕ → ℕ → View → Result Administrator
calling_rule a rule n v =
    if (eqb rule view_step) (call_rule a v n)
    (guard (eqb rule take_step) 3 (guard (eqb n 0) 3 (guard (eqb v.members.0 0) 3 (guard (eqb v.f 0) 3 (guard (eqb v.r 0) 3 (advance_rule a))))))

-- 9 a restart with the pending view v: what the rule does not use is zero
unfoldable pub restarting_rule : Administrator → ℕ → View → Result Administrator
restarting_rule a n v = guard (eqb n 0) 3 (restart_rule a v)

-- the administrator's rules: those on views, and a restart
unfoldable pub administrator_asked : Administrator → ℕ → ℕ → View → Result Administrator
administrator_asked a rule n v = if (eqb rule restart_step) (restarting_rule a n v) (calling_rule a rule n v)
