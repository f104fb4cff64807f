-- Members of numbered lists. Used by Sound.
use Rattle.std.specs.Prelude.{ℕ, zero, suc, ◌≤◌, ◌≡◌, refl}
use Rattle.std.proofs.Common.{arith}
use Rattle.protocol.specs.Worlds.{list_to}
use Rattle.protocol.specs.Consistent.{In, here, there}
use Rattle.protocol.proofs.Laws.Lists.{no_member}

-- what an element of g 1 to g n comes from
pub record Numbered {A : Type 0} (g : ℕ → A) (n : ℕ) (y : A) : Type 0 where
  pub at : ℕ
  pub low : 1 ≤ at
  pub high : at ≤ n
  pub is : g at ≡ y

pub in_list_to : {A : Type 0} (g : ℕ → A) (n : ℕ) {y : A} → In y (list_to g n) → Numbered g n y
unfolding list_to
in_list_to g zero i = no_member i
in_list_to g (suc n) (here e) = record { at = 1; low = omega arith; high = omega arith; is = e }
in_list_to g (suc n) (there i) =
    let r = in_list_to (λ k. g (suc k)) n i in
    let l = r.low in
    let h = r.high in
    record { at = suc r.at; low = omega arith; high = omega arith; is = r.is }

pub list_to_in : {A : Type 0} (g : ℕ → A) (n k : ℕ) → 1 ≤ k → k ≤ n → In (g k) (list_to g n)
unfolding list_to
list_to_in g n zero l h = absurd (omega arith)
list_to_in g zero (suc k) l h = absurd (omega arith)
list_to_in g (suc n) (suc zero) l h = here refl
list_to_in g (suc n) (suc (suc k)) l h = there (list_to_in (λ i. g (suc i)) n (suc k) (omega arith) (omega arith))
