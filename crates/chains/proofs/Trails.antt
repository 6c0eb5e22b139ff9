-- Laws of the walk: the unmet channels fall by one, what a walk that goes on by the rules leaves in the lists, and that a chain depends on the answers at its channels alone.
-- Assumes nothing.
use Rattle.std.proofs.Common.{◌≡◌, refl, ap, ap₂, sym, subst, ◌∙◌, Bool, true, false, cond, List, [], ◌∷◌, map, Option, Some, None, ℕ, zero, suc, ◌+◌, ◌<◌, ◌≤◌, length, get_or, set, add-one, arith}
use lib.Seq.{sets}
use Rattle.blocks.specs.States.{reg_in}
use Rattle.blocks.specs.declared.Net.{Net}
use Rattle.blocks.specs.declared.Sig.{Sig}
use Rattle.blocks.specs.declared.State.{State}
use Rattle.blocks.proofs.Asking.{handed_cases}
use Rattle.blocks.proofs.Numbers.{ins_agree, outs_agree}
use Rattle.ports.specs.Places.{sig_at, ready_at}
use Rattle.passes.specs.Rows.{block_no, kind_with, in_no, out_no}
use Rattle.asking.specs.Endings.{ending_of}
use Rattle.asking.specs.Questions.{goes_to, end_else, asks}
use Rattle.asking.specs.Rows.{next_by}
use Rattle.chains.specs.Chain.{Trail, stop, no_trail, onward, goes, trail, none_met, chain_from}
use Rattle.chains.specs.Rows.{next_no, unmet, trail_no, Noted, Follows}
use Rattle.chains.specs.Wiring.{Wired}
use Rattle.asking.specs.declared.Ending.{Ending}
use Rattle.asking.specs.declared.Ending.TheVariants.{Circle}
use Rattle.asking.specs.declared.Next.{Next}
use Rattle.asking.specs.declared.Next.TheVariants.{Word, Ready, End}
use Rattle.chains.specs.declared.Seen.{Seen}
use Rattle.chains.specs.declared.Walked.{Walked}

-- ## Channels not yet met

falls : (ms : List Bool) (c : ℕ) → c < length ms → get_or ms c false ≡ false → unmet ms ≡ suc (unmet (set ms c true))
unfolding unmet
falls [] c h e = absurd (omega arith)
falls (m ∷ ms) zero h e = rw e
falls (true ∷ ms) (suc c) h e = falls ms c (omega arith) e
falls (false ∷ ms) (suc c) h e = ap suc (falls ms c (omega arith) e)

pub unmet_all : unmet none_met ≡ 128
unfolding unmet
unmet_all = refl

-- ## A channel that is asked next is one of the net's

-- what an answer leads to: the channel that is asked next has the property of the question
abbrev pub LeadsBy : (Bool → ℕ → Type 0) → Next → Type 0
LeadsBy P (Word n) = P true n
LeadsBy P (Ready n) = P false n
LeadsBy P (End e) = Unit {0}

pub leads_asks : (P : Bool → ℕ → Type 0) (p : Bool) (n : ℕ) (x : Next) → x ≡ asks p n → LeadsBy P x → P p n
leads_asks P true n x e h = subst (LeadsBy P) e h
leads_asks P false n x e h = subst (LeadsBy P) e h

pub past_leads : (P : Bool → ℕ → Type 0) (o : Option Ending) (n : Next) → LeadsBy P n → LeadsBy P (end_else o n)
past_leads P (Some e) n h = tt
past_leads P None n h = h

module _ (net : Net) (state : State) (producer consumer : List ℕ) (w : Wired net state producer consumer) (signals : List Sig) (ready : List Bool) where
  abbrev Inside : Bool → ℕ → Type 0
  Inside q n = n < net.channels

  row_stays : (q : Bool) (b : ℕ) → b < net.size → LeadsBy Inside (next_by net state signals ready q b)
  row_stays q b l =
      let block = block_no net b in
      let ins = ins_agree block.m block.value [] block.kind (w.row b l).sound in
      let outs = outs_agree block.m block.value [] block.kind (w.row b l).sound in
      past_leads Inside (ending_of (kind_with block []) q b) _
      (handed_cases (kind_with block []) (reg_in state b) (λ i. sig_at signals (in_no net b i)) (λ j. (sig_at signals (out_no net b j)).valid) (λ j. ready_at ready (out_no net b j))
      (λ h. LeadsBy Inside (goes_to (in_no net b) (out_no net b) b h))
      (λ i h e. w.inputs b i l (subst (λ (n : ℕ). i < n) ins h)) (λ j h e. w.outputs b j l (subst (λ (n : ℕ). j < n) outs h)) (λ e d. tt))

  pub stays : (q : Bool) (c : ℕ) → c < net.channels → LeadsBy Inside (next_by net state signals ready q (get_or (cond q producer consumer) c 0))
  stays true c l = row_stays true (get_or producer c 0) (w.leaves c l)
  stays false c l = row_stays false (get_or consumer c 0) (w.enters c l)

-- ## One channel of the walk

-- what is known where channel c is asked: t channels are not met, and there is room for them in the chain
pub record Begun (z : Seen) (walk : Walked) (c t : ℕ) : Type 0 where
  pub wired : Wired z.net.now z.state.now z.producer.now z.consumer.now
  pub below : c < z.net.now.channels
  pub long : length walk.met ≡ 128
  pub room : walk.count + unmet walk.met ≤ 128
  pub left : unmet walk.met ≡ t

module _ {z : Seen} {walk : Walked} {c t : ℕ} (b : Begun z walk c t) where
  pub low : c < 128
  low = omega (arith, b.below, b.wired.few)

  in_list : c < length walk.met
  in_list = omega (arith, low, b.long)

  trail_met : (q : Bool) (k : ℕ) → get_or walk.met c false ≡ true → trail k (next_no z) walk.met q c ≡ stop (Circle c)
  unfolding trail
  trail_met q zero h = refl
  trail_met q (suc k) h = rw h

  -- it is met already
  pub at_circle : (q : Bool) → get_or walk.met c false ≡ true → Follows (trail_no z walk.met q c) z.signals.now walk walk (Circle c)
  at_circle q h = rw (trail_met q (unmet walk.met) h) (record { counted = omega arith; ended = refl; listed = refl; shown = refl })

  module _ (new : get_or walk.met c false ≡ false) where
    pub count-below : walk.count < 128
    count-below = omega (arith, b.room, falls walk.met c in_list new)

    trail-on : (q : Bool) → trail_no z walk.met q c ≡ onward c (goes (next_no z q c) (trail_no z (set walk.met c true)))
    unfolding trail
    trail-on q = rw (falls walk.met c in_list new, new)

    -- it is noted, and its block has answered
    module _ {walk' : Walked} (noted : Noted c z.signals.now walk walk') (q : Bool) (found : Next) (told : found ≡ next_no z q c) where
      -- what the next call asks
      pub next-asks : (p : Bool) (n : ℕ) → found ≡ asks p n → (unmet walk'.met < t) × ((n < z.net.now.channels) × (walk'.count + unmet walk'.met ≤ 128))
      next-asks p n e = rw (noted.marked, noted.more) (
        omega (arith, b.left, falls walk.met c in_list new),
        (
          leads_asks (λ q n. n < z.net.now.channels) p n (next_no z q c) (sym told ∙ e) (stays z.net.now z.state.now z.producer.now z.consumer.now b.wired z.signals.now z.ready.now q c b.below),
          omega (arith, b.room, falls walk.met c in_list new),
        ),
      )

      goes_on : (u : Trail) (walk'' : Walked) (e : Ending) → trail_no z walk.met q c ≡ onward c u → Follows u z.signals.now walk' walk'' e
          → Follows (trail_no z walk.met q c) z.signals.now walk walk'' e
      goes_on u walk'' e p f = rw p (record {
        counted = omega (arith, f.counted, noted.more);
        ended = f.ended;
        listed = f.listed ∙ ap₂ (λ (l : List ℕ) (k : ℕ). sets l k u.channels) noted.put (noted.more ∙ add-one walk.count);
        shown = f.shown ∙ ap₂ (λ (l : List Bool) (k : ℕ). sets l k (map (λ c. (sig_at z.signals.now c).valid) u.channels)) noted.shown (noted.more ∙ add-one walk.count);
      })

      next-goes : (T : Bool → ℕ → Trail) (p : Bool) (n : ℕ) → found ≡ asks p n → goes (next_no z q c) T ≡ T p n
      next-goes T true n e = ap (λ (x : Next). goes x T) (sym told ∙ e)
      next-goes T false n e = ap (λ (x : Next). goes x T) (sym told ∙ e)

      -- the walk from the channel that is asked next
      pub walked_on : (p : Bool) (n : ℕ) → found ≡ asks p n → {walk'' : Walked} {e : Ending} → Follows (trail_no z walk'.met p n) z.signals.now walk' walk'' e
          → Follows (trail_no z walk.met q c) z.signals.now walk walk'' e
      walked_on p n d {walk''} {e} f =
          goes_on (trail_no z walk'.met p n) walk'' e
          (trail-on q ∙ ap (onward c) (next-goes (trail_no z (set walk.met c true)) p n d ∙ ap (λ (m : List Bool). trail_no z m p n) (sym noted.marked))) f

      -- the chain ends at that block
      pub walked_end : (e : Ending) → found ≡ End e → Follows (trail_no z walk.met q c) z.signals.now walk walk' e
      walked_end e d =
          goes_on (stop e) walk' e (trail-on q ∙ ap (λ (x : Next). onward c (goes x (trail_no z (set walk.met c true)))) (sym told ∙ d))
          (record { counted = omega arith; ended = refl; listed = refl; shown = refl })

-- ## The whole chain

module _ (next : Bool → ℕ → Next) (v y : Bool) (c : ℕ) where
  pub from-delivers : v ≡ true → y ≡ true → chain_from next v y c ≡ no_trail
  unfolding chain_from
  from-delivers e f = rw (e, f)

  pub from-ready : v ≡ true → y ≡ false → chain_from next v y c ≡ trail (unmet none_met) next none_met false c
  unfolding chain_from
  from-ready e f = rw (e, f, unmet_all)

  pub from-word : v ≡ false → chain_from next v y c ≡ trail (unmet none_met) next none_met true c
  unfolding chain_from
  from-word e = rw (e, unmet_all)

-- ## What stands beside the channels depends on those below N alone

module _ (N : ℕ) (next : Bool → ℕ → Next) (within : (q : Bool) (c : ℕ) → c < N → LeadsBy (λ q n. n < N) (next q c)) (f f' : ℕ → Bool) (agree : (c : ℕ) → c < N → f c ≡ f' c) where
  abbrev Alike : Trail → Type 0
  Alike t = map f t.channels ≡ map f' t.channels

  goes_alike : (T : Bool → ℕ → Trail) → ((q : Bool) (n : ℕ) → n < N → Alike (T q n)) → (x : Next) → LeadsBy (λ q n. n < N) x → Alike (goes x T)
  goes_alike T h (Word n) l = h true n l
  goes_alike T h (Ready n) l = h false n l
  goes_alike T h (End e) l = refl

  trail_alike : (k : ℕ) (met : List Bool) (q : Bool) (c : ℕ) → c < N → Alike (trail k next met q c)
  unfolding trail
  trail_alike zero met q c h = refl
  trail_alike (suc k) met q c h = by (get_or met c false) (λ w n l. trail_alike k (set met c true) w n l)
    where
      by : (m : Bool) → ((w : Bool) (n : ℕ) → n < N → Alike (trail k next (set met c true) w n))
          → Alike (cond m (stop (Circle c)) (onward c (goes (next q c) (λ w n. trail k next (set met c true) w n))))
      by true rec = refl
      by false rec = ap₂ ◌∷◌ (agree c h) (goes_alike (λ w n. trail k next (set met c true) w n) rec (next q c) (within q c h))

  pub chain_alike : (v y : Bool) (c : ℕ) → c < N → Alike (chain_from next v y c)
  unfolding chain_from
  chain_alike true true c h = refl
  chain_alike true false c h = trail_alike 128 none_met false c h
  chain_alike false y c h = trail_alike 128 none_met true c h

-- ## Two ways to answer that agree

module _ (N : ℕ) (next next' : Bool → ℕ → Next) (same : (q : Bool) (c : ℕ) → c < N → next q c ≡ next' q c)
    (within : (q : Bool) (c : ℕ) → c < N → LeadsBy (λ q n. n < N) (next q c)) where
  goes_same : (T T' : Bool → ℕ → Trail) → ((q : Bool) (n : ℕ) → n < N → T q n ≡ T' q n) → (x : Next) → LeadsBy (λ q n. n < N) x → goes x T ≡ goes x T'
  goes_same T T' h (Word n) l = h true n l
  goes_same T T' h (Ready n) l = h false n l
  goes_same T T' h (End e) l = refl

  trail_same : (k : ℕ) (met : List Bool) (q : Bool) (c : ℕ) → c < N → trail k next met q c ≡ trail k next' met q c
  unfolding trail
  trail_same zero met q c h = refl
  trail_same (suc k) met q c h = step (λ w n l. trail_same k (set met c true) w n l)
    where
      step : ((w : Bool) (n : ℕ) → n < N → trail k next (set met c true) w n ≡ trail k next' (set met c true) w n)
          → cond (get_or met c false) (stop (Circle c)) (onward c (goes (next q c) (λ w n. trail k next (set met c true) w n)))
          ≡ cond (get_or met c false) (stop (Circle c)) (onward c (goes (next' q c) (λ w n. trail k next' (set met c true) w n)))
      step rec =
          ap (λ (u : Trail). cond (get_or met c false) (stop (Circle c)) (onward c u))
          (goes_same (λ w n. trail k next (set met c true) w n) (λ w n. trail k next' (set met c true) w n) rec (next q c) (within q c h)
          ∙ ap (λ (x : Next). goes x (λ w n. trail k next' (set met c true) w n)) (same q c h))

  pub chain_same : (v y v' y' : Bool) (c : ℕ) → c < N → v ≡ v' → y ≡ y' → chain_from next v y c ≡ chain_from next' v' y' c
  unfolding chain_from
  chain_same v y v' y' c h e f = rw (e, f, trail_same 128 none_met false c h, trail_same 128 none_met true c h)
