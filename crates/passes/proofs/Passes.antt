-- The law of a pass, stated once for the forward and the backward one: worked out along the order, every block's equation holds at the end.
-- Assumes nothing.
use mathlib.Core.Path.{◌≡◌, sym, ap, subst, ◌∙◌}
use mathlib.Core.Logic.{◌⊎◌, inl, inr}
use Prim.Native.Nat.{ℕ, suc, ◌+◌, ◌<◌}
use native.Mathlib.Numerals.{add-one}
use native.Mathlib.Decide.{ℕ_discrete}
use native.Mathlib.Omega.{arith}
use Rattle.ports.specs.Places.{Put}
use Rattle.passes.specs.Pass.{Site, Holds, Local, Single, InTurn, Going}

-- an equation stays where nothing changes on the block's channels
pub kept : {A : Type 0} (s : Site A) → Local s → (f g : ℕ → A) → ((o : ℕ) → o < s.puts → g (s.to o) ≡ f (s.to o)) → ((p : ℕ) → p < s.asks → g (s.from p) ≡ f (s.from p))
    → Holds s f → Holds s g
kept s local f g to from h o l = to o l ∙ h o l ∙ local (λ p. f (s.from p)) (λ p. g (s.from p)) (λ p q. sym (from p q)) o l

-- what a pass rests on: the blocks that are done ask nothing, and those in turn ask what is put before
pub record Pass {A : Type 0} (site : ℕ → Site A) (n : ℕ) (Done Mine : ℕ → Type 0) (count : ℕ) (at : ℕ → ℕ) : Type 0 where
  pub local : (b : ℕ) → b < n → Local (site b)
  pub single : Single site n
  pub turn : InTurn site n Mine count at
  pub alone : (b : ℕ) → b < n → Done b → (p : ℕ) → p < (site b).asks → ⊥

module _ {A : Type 0} (site : ℕ → Site A) (n : ℕ) (Done Mine : ℕ → Type 0) (count : ℕ) (at : ℕ → ℕ) (P : Pass site n Done Mine count at) where
  abbrev turn : InTurn site n Mine count at
  turn = P.turn

  -- a block that has its equation does not ask what the block at turn i puts
  earlier : (i b : ℕ) → i < count → b < n → Done b ⊎ (Mine b × (turn.place b < i)) → (p : ℕ) → p < (site b).asks → (o : ℕ) → o < (site (at i)).puts
      → (site b).from p ≡ (site (at i)).to o → ⊥
  earlier i b li lb (inl s) p lp o lo e = P.alone b lb s p lp
  earlier i b li lb (inr q) p lp o lo e =
      let x : turn.place (at i) < turn.place b = turn.before (at i) b o p (turn.listed i li).0 lb (turn.listed i li).1 q.0 lo lp e in
      omega (arith, (turn.listed i li).2, q.1)

  -- the block that is worked out does not ask what it puts
  not_own : (b : ℕ) → b < n → Mine b → (p : ℕ) → p < (site b).asks → (o : ℕ) → o < (site b).puts → (site b).from p ≡ (site b).to o → ⊥
  not_own b lb t p lp o lo e = let x : turn.place b < turn.place b = turn.before b b o p lb lb t t lo lp e in omega arith

  -- one turn more
  pub pass_more : (f g : ℕ → A) (i : ℕ) → i < count → Going site n Done Mine P.turn.place i f
      → Put (site (at i)).to ((site (at i)).says (λ p. f ((site (at i)).from p))) (site (at i)).puts f g → Going site n Done Mine P.turn.place (i + 1) g
  pass_more f g i li going p b lb t = by (ℕ_discrete b (at i))
    where
      by : Dec (b ≡ at i) → Holds (site b) g
      by (yes e) =
          subst (λ (x : ℕ). Holds (site x) g) (sym e)
          (λ o lo. p.own o lo ∙ P.local (at i) (turn.listed i li).0 (λ q. f ((site (at i)).from q)) (λ q. g ((site (at i)).from q))
          (λ q lq. sym (p.others ((site (at i)).from q) (λ o' lo' z. not_own (at i) (turn.listed i li).0 (turn.listed i li).1 q lq o' lo' z))) o lo)
      by (no ne) =
          kept (site b) (P.local b lb) f g
          (λ o lo. p.others ((site b).to o) (λ o' lo' z. ne (P.single b (at i) o o' lb (turn.listed i li).0 lo lo' z).0))
          (λ q lq. p.others ((site b).from q) (λ o' lo' z. earlier i b li lb (sooner t) q lq o' lo' z)) (going b lb (sooner t))
        where
          sooner : Done b ⊎ (Mine b × (turn.place b < i + 1)) → Done b ⊎ (Mine b × (turn.place b < i))
          sooner (inl s) = inl s
          sooner (inr q) = inr (q.0, before (ℕ_discrete (turn.place b) i))
            where
              before : Dec (turn.place b ≡ i) → turn.place b < i
              before (yes z) = absurd (ne (sym (turn.stands b lb q.0).1 ∙ ap at z))
              before (no z) = omega (arith, q.1)

  -- after the last turn every block of the pass has its equation, and those that were done have it still
  pub pass_all : (f : ℕ → A) → Going site n Done Mine P.turn.place count f → (b : ℕ) → b < n → Done b ⊎ Mine b → Holds (site b) f
  pass_all f going b lb (inl s) = going b lb (inl s)
  pass_all f going b lb (inr t) = going b lb (inr (t, (turn.stands b lb t).0))

  -- before the first turn those that were done have it
  pub pass_none : (f : ℕ → A) → ((b : ℕ) → b < n → Done b → Holds (site b) f) → Going site n Done Mine P.turn.place 0 f
  pass_none f h b lb (inl s) = h b lb s
  pass_none f h b lb (inr q) = absurd (never q.1)
    where
      never : turn.place b < 0 → ⊥
      never z = omega arith

-- the same where block b stands at turn i
pub pass_next : {A : Type 0} (site : ℕ → Site A) (n : ℕ) (Done Mine : ℕ → Type 0) (count : ℕ) (at : ℕ → ℕ) (P : Pass site n Done Mine count at) (f g : ℕ → A) (i b : ℕ) → i < count
    → at i ≡ b → Going site n Done Mine P.turn.place i f → Put (site b).to ((site b).says (λ p. f ((site b).from p))) (site b).puts f g
    → Going site n Done Mine P.turn.place (suc i) g
pass_next site n Done Mine count at P f g i b li e going p =
    subst (λ (k : ℕ). Going site n Done Mine P.turn.place k g) (add-one i)
    (pass_more site n Done Mine count at P f g i li going
    (subst (λ (x : ℕ). Put (site x).to ((site x).says (λ p. f ((site x).from p))) (site x).puts f g) (sym e) p))
