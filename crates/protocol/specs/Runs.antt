-- Journals, runs and their operations. Assumes nothing.
use Rattle.std.specs.Prelude.{ℕ, ◌+◌, ◌*◌, Bool, true, not, ◌&&◌, ◌||◌, List, [], ◌∷◌, ◌++◌, map, length, get_or, ltb, eqb, Option, None, Some}
use Rattle.protocol.specs.Types.{Entry, Phase, Idle, Reading, Writing, Step}
use Rattle.protocol.specs.Tools.{if, Result, refused, done, guard}
use Rattle.protocol.specs.Entries.{empty}
use Rattle.protocol.specs.Clients.{WRITES, READS, number, is_idle}
use Rattle.protocol.specs.Worlds.{World, client, message}
use Rattle.protocol.specs.Steps.{After, step}
use Rattle.protocol.specs.Consistent.{Operation}

-- "little-endian"
abbrev pub u16_at : List ℕ → ℕ → ℕ
u16_at b at = get_or b at 0 + 256 * get_or b (at + 1) 0

abbrev pub u32_at : List ℕ → ℕ → ℕ
u32_at b at = u16_at b at + 65536 * u16_at b (at + 2)

-- the widths of numbers
abbrev pub u8_width : ℕ
u8_width = 1

abbrev pub u16_width : ℕ
u16_width = 2

abbrev pub u32_width : ℕ
u32_width = 4

-- "Step, 12 bytes: kind u8, who u8, view u8, f u8, message u16, source u16, value u32."
abbrev pub who_place : ℕ
who_place = u8_width

abbrev pub step_view_place : ℕ
step_view_place = who_place + u8_width

abbrev pub step_threshold_place : ℕ
step_threshold_place = step_view_place + u8_width

abbrev pub step_message_place : ℕ
step_message_place = step_threshold_place + u8_width

abbrev pub source_place : ℕ
source_place = step_message_place + u16_width

abbrev pub step_value_place : ℕ
step_value_place = source_place + u16_width

abbrev pub step_width : ℕ
step_width = step_value_place + u32_width

unfoldable pub step_of : List ℕ → Step
step_of b =
    record {
      kind = get_or b 0 0;
      who = get_or b who_place 0;
      view = record { 0 = get_or b step_view_place 0 };
      f = get_or b step_threshold_place 0;
      message = number (u16_at b step_message_place);
      source = number (u16_at b source_place);
      value = u32_at b step_value_place;
    }

-- a step given by its bytes: "1, ... step of wrong length"
unfoldable pub step_bytes : World → List ℕ → Result After
step_bytes w b = guard (eqb (length b) step_width) 1 (step w (step_of b))

-- "A refusal changes no byte": the world that a step leaves
abbrev pub left : World → Result After → World
left w (refused n) = w
left w (done a) = a.world

-- "Replay ... stops at the first refused step and returns the number of steps done and the refusal"
pub record Replayed : Type 0 where
  pub world : World
  pub steps : ℕ
  pub refusal : ℕ

abbrev pub onward : Result After → Replayed → (World → Replayed) → Replayed
onward (refused n) stop go = record { world = stop.world; steps = 0; refusal = n }
onward (done a) stop go = let r : Replayed = go a.world in record { world = r.world; steps = r.steps + 1; refusal = r.refusal }

unfoldable pub replay : World → List (List ℕ) → Replayed
replay w [] = record { world = w; steps = 0; refusal = 0 }
replay w (b ∷ bs) = onward (step_bytes w b) (record { world = w; steps = 0; refusal = 0 }) (λ v. replay v bs)

-- An operation as a run finds it: the places of the steps that begin and end it ("without one it is unfinished": 0), whether its
-- client is still at it, the numbers of its READ and, once it is sent, of its WRITE, and the entry in its client's record after it ended
pub record Tracked : Type 0 where
  pub client : ℕ
  pub kind : ℕ
  pub begin : ℕ
  pub end : ℕ
  pub active : Bool
  pub read : ℕ
  pub write : ℕ
  pub entry : Entry

-- the number of the WRITE of an open operation, where it has been sent
abbrev pub sent_write : Phase → ℕ → ℕ
sent_write Idle n = n
sent_write (Reading r) n = n
sent_write (Writing r) n = r.0

abbrev pub unfinished : Tracked → Bool
unfinished o = eqb o.end 0

-- an operation after the accepted step at place i, which led to v and completed that of client c. An active one stays so until its
-- client is idle: completed, or given up, when "its operation counts as unfinished"
unfoldable pub tracked : World → ℕ → ℕ → Tracked → Tracked
tracked v i c o =
    if o.active
    (record {
      client = o.client;
      kind = o.kind;
      begin = o.begin;
      end = if (eqb o.client c) i 0;
      active = not (is_idle (client v o.client).phase);
      read = o.read;
      write = sent_write (client v o.client).phase o.write;
      entry = if (eqb o.client c) (client v c).entry empty;
    })
    o

-- "An operation begins with an accepted write or read": step kinds 1 and 2 are the operation's kinds
abbrev pub started : World → ℕ → Step → List Tracked
started v i st =
    if (eqb st.kind WRITES || eqb st.kind READS)
    (record { client = st.who; kind = st.kind; begin = i; end = 0; active = true; read = v.used; write = 0; entry = empty } ∷ [])
    []

-- a run: its world, the place of its next step, and its operations in the order of their beginning
pub record Run : Type 0 where
  pub world : World
  pub place : ℕ
  pub operations : List Tracked

-- "Each gets the image the last one left."
abbrev pub noted : Run → List ℕ → Result After → Run
noted r b (refused n) = record { world = r.world; place = r.place + 1; operations = r.operations }
noted r b (done a) =
    record {
      world = a.world;
      place = r.place + 1;
      operations = map (tracked a.world r.place a.completed) r.operations ++ started a.world r.place (step_of b);
    }

unfoldable pub run : Run → List (List ℕ) → Run
run r [] = r
run r (b ∷ bs) = run (noted r b (step_bytes r.world b)) bs

-- "A run is any fresh world and any list of steps"; places are counted from 1
unfoldable pub run_from : World → List (List ℕ) → Run
run_from w bs = run (record { world = w; place = 1; operations = [] }) bs

-- "Its entry is that in its client's record in the image after that take, or for an unfinished write that of its WRITE, if sent."
unfoldable pub operation_entry : World → Tracked → Option Entry
operation_entry w o =
    if (unfinished o) (if (eqb o.kind WRITES && ltb 0 o.write) (Some (message w o.write).entry) None)
    (Some o.entry)

unfoldable pub operation : World → Tracked → Operation
operation w o = record { kind = o.kind; begin = o.begin; end = o.end; entry = operation_entry w o }

unfoldable pub history : Run → List Operation
history r = map (operation r.world) r.operations
