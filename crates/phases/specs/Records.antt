-- The record of a phase as bytes: its head and its tallies, what each reads as (`..Of`), what it is written as (`..Bytes`), and
-- whether it is in its range. Used by the code of `records` and by Calls.
use Rattle.std.specs.Prelude.{ℕ, Bool, not, ◌&&◌, ◌||◌, ◌≡◌, refl, List, ◌∷◌, ◌++◌, length, get_or, replicate, leb, ltb, eqb}
use Rattle.values.specs.declared.tally.Tally.{Tally}
use Rattle.protocol.specs.Tools.{if, bit, within}
use Rattle.protocol.specs.Sizes.{views}
use Rattle.protocol.specs.Entries.{empty, same, entry_fits}
use Rattle.protocol.specs.Servers.{READ, END}
use Rattle.protocol.specs.Clients.{number}
use Rattle.protocol.specs.Runs.{u16_at, u32_at}
use Rattle.checked.specs.Ranges.{number_fits}
use Rattle.codec.specs.Layout.{entry_width}
use Rattle.codec.specs.Lists.{part, put}
use Rattle.codec.specs.Bytes.{le16, le32, zeros}
use Rattle.codec.specs.Records.{entry_of, entry_bytes, entry_plain}
use Rattle.phases.specs.declared.phase_record.Head.{Head}
use Rattle.phases.specs.Layout.{head_kind_place, head_view_place, head_request_place, head_width, heard_place, best_place, differ_place, tally_spare_place, tally_spare, tally_width, tally_place}

-- a head of a kind, a view and a request
abbrev pub head : ℕ → ℕ → ℕ → Head
head kind t r = record { kind = kind; view = record { 0 = t }; request = number r }

-- kind u8, view u8, request u16
unfoldable pub head_of : List ℕ → Head
head_of b = head (get_or b head_kind_place 0) (get_or b head_view_place 0) (u16_at b head_request_place)

unfoldable pub head_bytes : Head → List ℕ
head_bytes h = h.kind ∷ h.view.0 ∷ le16 h.request.0

-- an open phase: "READ (1)", "WRITE (2)", "END (3) of its view"; "an open phase carries its request's number"; "while ending, newest
-- is below 32", and the END is that of newest
abbrev pub ended_fits : ℕ → ℕ → Bool
ended_fits kind t = if (eqb kind END) (leb 1 t && ltb t views) (eqb t 0)

unfoldable pub open_fits : Head → Bool
open_fits h = within READ END h.kind && (ended_fits h.kind h.view.0 && number_fits h.request.0)

-- nothing is open: all zero
abbrev pub none_open : Head → Bool
none_open h = eqb h.view.0 0 && eqb h.request.0 0

unfoldable pub head_fits : Head → Bool
head_fits h = if (eqb h.kind 0) (none_open h) (open_fits h)

-- servers heard u32, entry, differ u8, 3 zero; differ is 1 where two answers of the view do not carry one entry
unfoldable pub tally_read : List ℕ → Tally
tally_read b =
    record {
      seen = record { 0 = u32_at b heard_place };
      best = entry_of (part b best_place entry_width);
      one = eqb (get_or b differ_place 0) 0;
    }

unfoldable pub tally_bytes : Tally → List ℕ
tally_bytes a = le32 a.seen.0 ++ (entry_bytes a.best ++ (bit (not a.one) ∷ replicate tally_spare 0))

unfoldable pub tally_plain : List ℕ → Bool
tally_plain b = leb (get_or b differ_place 0) 1 && (zeros b tally_spare_place tally_spare && entry_plain (part b best_place entry_width))

-- where nobody was heard there is no entry, and nothing differs
abbrev pub unheard_fits : Tally → Bool
unheard_fits a = not (eqb a.seen.0 0) || (same a.best empty && a.one)

unfoldable pub tally_rule : Tally → Bool
tally_rule a = entry_fits a.best && unheard_fits a

-- the head and the tally of view t in the record of a phase, and the record with another tally there
unfoldable pub head_at : List ℕ → Head
head_at p = head_of (part p 0 head_width)

unfoldable pub tally_at : List ℕ → ℕ → Tally
tally_at p t = tally_read (part p (tally_place t) tally_width)

unfoldable pub put_tally : List ℕ → ℕ → Tally → List ℕ
put_tally p t a = put p (tally_place t) (tally_bytes a)

unfoldable pub plain_at : List ℕ → ℕ → Bool
plain_at p t = tally_plain (part p (tally_place t) tally_width)

-- the tally of a message's view is in its range; a READ and a WRITE name no view
unfoldable pub tally_fits : List ℕ → ℕ → Bool
tally_fits p t = eqb t 0 || (plain_at p t && tally_rule (tally_at p t))

-- ---- the widths

pub length_head_bytes : (h : Head) → length (head_bytes h) ≡ head_width
unfolding head_bytes
length_head_bytes h = refl

pub length_tally_bytes : (a : Tally) → length (tally_bytes a) ≡ tally_width
unfolding tally_bytes entry_bytes
length_tally_bytes a = refl
