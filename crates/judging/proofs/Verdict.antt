-- What `judged` answers keeps the `Promise`: `promised`, for every log and every buffer.
use Rattle.std.specs.Prelude.{ℕ, ◌*◌, ◌%◌, Bool, ◌≡◌, List, map, length, eqb}
use Rattle.std.proofs.Common.{arith, sym, ap, eqb-true}
use Rattle.std.proofs.Math.Bool.{true, false}
use Rattle.std.proofs.Math.Path.{refl}
use Rattle.std.specs.Cmp.{second_so}
use Rattle.protocol.specs.Tools.{Result, refused, done, guard}
use Rattle.protocol.specs.Consistent.{Operation}
use Rattle.protocol.proofs.Laws.Tests.{clash}
use Rattle.judging.specs.Orders.{logged_operation, OrderOf}
use Rattle.judging.specs.Decision.{sorted, passes}
use Rattle.judging.specs.Logs.{line_width, lines_of, line_at, well_logged}
use Rattle.judging.proofs.Logs.{logged_fine}
use Rattle.judging.proofs.Sorted.{in_sorted}
use Rattle.judging.proofs.Sound.{sorted_sound}
use Rattle.judging.proofs.Complete.{sorted_complete}
use Rattle.judging.specs.Verdict.{place_width, lengths_fit, decided, judged, operations_in, order_bytes, listed_in, log_operations, ListsOrder, Promise}

-- ---- the promise

apart : {A : Type 0} {n k : ℕ} → refused n ≡ done k → A
apart e = let z : ◌≡◌ {A = ℕ} 0 1 = cc in absurd (omega arith)

other : {A : Type 0} (m n : ℕ) → (m ≡ n → ⊥) → ◌≡◌ {A = Result ℕ} (refused m) (refused n) → A
other m n d e = absurd (d cc)

module _ (log before : List ℕ) where
  abbrev Said : Result (List ℕ) → Type 0
  Said r = Promise log before (listed_in before r) (operations_in r)

  no_lengths : lengths_fit log (length before) ≡ false → Said (refused 1)
  no_lengths e =
      record {
        lengths = (λ _. e, λ _. refl);
        malformed = (λ q. other 1 14 (λ z. omega arith) q, λ p. clash p.0 e);
        yes = λ k q. apart q;
        some = λ j o g. clash j.lengths e;
        no = (λ q. other 1 13 (λ z. omega arith) q, λ p. clash p.0.lengths e);
        kept = λ n q. refl;
      }

  module _ (f : lengths_fit log (length before) ≡ true) where
    no_form : well_logged log ≡ false → Said (refused 14)
    no_form e =
        record {
          lengths = (λ q. other 14 1 (λ z. omega arith) q, λ p. clash f p);
          malformed = (λ _. (f, e), λ _. refl);
          yes = λ k q. apart q;
          some = λ j o g. clash j.formed e;
          no = (λ q. other 14 13 (λ z. omega arith) q, λ p. clash p.0.formed e);
          kept = λ n q. refl;
        }

    module _ (w : well_logged log ≡ true) where
      none : passes (line_at log) (lines_of log) ≡ false → (order : List Operation) → OrderOf (log_operations log) order → ⊥
      none e o g = clash (sorted_complete (line_at log) (lines_of log) (logged_fine log w) o g) e

      no_order : passes (line_at log) (lines_of log) ≡ false → Said (refused 13)
      no_order e =
          record {
            lengths = (λ q. other 13 1 (λ z. omega arith) q, λ p. clash f p);
            malformed = (λ q. other 13 14 (λ z. omega arith) q, λ p. clash w p.1);
            yes = λ k q. apart q;
            some = λ j o g. absurd (none e o g);
            no = (λ _. (record { lengths = f; formed = w }, none e), λ _. refl);
            kept = λ n q. refl;
          }

      abbrev s : List ℕ
      s = sorted (line_at log) (lines_of log)

      shows : passes (line_at log) (lines_of log) ≡ true → (k : ℕ) → ◌≡◌ {A = Result ℕ} (done (length s)) (done k) → ListsOrder log (order_bytes s (length before)) k
      shows e k q =
          record {
            lines = s;
            count = cc;
            bytes = ap (order_bytes s) (eqb-true (length before) (place_width * lines_of log) (second_so (eqb (length log % line_width) 0) _ f));
            within = λ i m. let d = in_sorted (line_at log) (lines_of log) (lines_of log) m in (d.low, d.high);
            order = sorted_sound (line_at log) (lines_of log) (logged_fine log w) e;
          }

      an_order : passes (line_at log) (lines_of log) ≡ true → Said (done s)
      an_order e =
          record {
            lengths = (λ q. apart (sym q), λ p. clash f p);
            malformed = (λ q. apart (sym q), λ p. clash w p.1);
            yes = λ k q. (record { lengths = f; formed = w }, shows e k q);
            some = λ j o g. record { count = length s; is = refl };
            no = (λ q. apart (sym q), λ p. absurd (p.1 (map (λ i. logged_operation (line_at log i)) s) (sorted_sound (line_at log) (lines_of log) (logged_fine log w) e)));
            kept = λ n q. apart (sym q);
          }

  -- for every log and every buffer
  pub promised : Said (judged log (length before))
  unfolding judged decided guard
  promised = go (lengths_fit log (length before)) (well_logged log) (passes (line_at log) (lines_of log)) refl refl refl
    where
      go : (a b c : Bool) → lengths_fit log (length before) ≡ a → well_logged log ≡ b → passes (line_at log) (lines_of log) ≡ c
          → Said (guard a 1 (guard b 14 (guard c 13 (done (sorted (line_at log) (lines_of log))))))
      go false b c p q r = no_lengths p
      go true false c p q r = no_form p q
      go true true false p q r = no_order p q r
      go true true true p q r = an_order p q r
