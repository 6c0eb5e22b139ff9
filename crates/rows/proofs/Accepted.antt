-- A net that the check accepts: its promises give what the passes need.
-- Assumes nothing.
use Rattle.std.proofs.Common.{◌≡◌, sym, ap, subst, ◌∙◌, Bool, true, false, ◌||◌, List, [], ℕ, ◌+◌, ◌≤◌, ◌<◌, arith, eqb, leb, ltb, eqb-true, ltb-true, get_or}
use Rattle.blocks.specs.Ports.{m_ok, n_in, n_out}
use Rattle.blocks.specs.declared.Block.{Block}
use Rattle.blocks.specs.declared.Net.{Net}
use Rattle.blocks.proofs.Folds.{and_2, all_at, or_2}
use Rattle.blocks.proofs.Numbers.{ins_agree, outs_agree}
use Rattle.nets.specs.Block.{ins, outs, port_ok, ports_ok, value_ok, block_ok}
use Rattle.nets.specs.Net.{block_at, fields_ok, connected}
use Rattle.nets.specs.Loops.{HasPort, Leads}
use Rattle.nets.specs.Promises.{InOrder}
use Rattle.nets.proofs.Nets.{size-high, channels-high, block_in, m-ok}
use Rattle.nets.proofs.Blocks.{ports_ten}
use Rattle.cycles.specs.Streams.{stream_of}
use Rattle.cycles.specs.Wires.{View, view_of, kind_at, producer, out_port, consumer, in_port}
use Rattle.cycles.proofs.Joins.{ins_are, outs_are, output, input, leaves-only, enters-only}
use Rattle.passes.specs.Rows.{kind_no, ins_no, outs_no, in_no, out_no, rests_ahead, rests_back, Rowed, Order, Whole}

-- every port entry is a channel, or 0
port_any : (b : Block) (channels : ℕ) → channels ≤ 128 → block_ok b channels ≡ true → (i : ℕ) → i < 10 → get_or b.ports i 0 < 128
unfolding block_ok ports_ok
port_any b channels few ok i h =
    let p : ports_ok b.ports (ins b + outs b) channels ≡ true =
    and_2 (value_ok b.kind b.value) (ports_ok b.ports (ins b + outs b) channels) (and_2 (m_ok b.kind b.m) _ ok) in
    by (ltb i (ins b + outs b)) (all_at (λ k. port_ok (get_or b.ports k 0) (ltb k (ins b + outs b)) channels) 10 p i h)
  where
    by : (used : Bool) → port_ok (get_or b.ports i 0) used channels ≡ true → get_or b.ports i 0 < 128
    by true e = omega (arith, ltb-true (get_or b.ports i 0) channels e)
    by false e = omega (arith, eqb-true (get_or b.ports i 0) 0 e)

module _ (net : Net) (fields : fields_ok net ≡ true) (joins : connected net ≡ true) where
  -- ## Ports as the passes and as a cycle count them

  pub ins-eq : (stream ends : List ℕ) (b : ℕ) → b < net.size → ins_no net b ≡ n_in (kind_at net stream ends b)
  ins-eq stream ends b l = sym (ins_agree (block_at net b).m (block_at net b).value (stream_of net stream ends b) (block_at net b).kind (m-ok net fields b l))

  pub outs-eq : (stream ends : List ℕ) (b : ℕ) → b < net.size → outs_no net b ≡ n_out (kind_at net stream ends b)
  outs-eq stream ends b l = sym (outs_agree (block_at net b).m (block_at net b).value (stream_of net stream ends b) (block_at net b).kind (m-ok net fields b l))

  ins-net : (b : ℕ) → b < net.size → ins_no net b ≡ ins (block_at net b)
  ins-net b l = ins-eq [] [] b l ∙ ins_are net [] [] fields joins b l

  pub ten : (b : ℕ) → b < net.size → ins_no net b + outs_no net b ≤ 10
  ten b l = omega (arith, ins-net b l, outs-eq [] [] b l ∙ outs_are net [] [] fields joins b l, ports_ten (block_at net b))

  -- (the streams do not matter to the ports)
  abbrev view : View
  view = view_of net [] []

  pub out_eq : (b : ℕ) → b < net.size → (j : ℕ) → out_no net b j ≡ view.out b j
  out_eq b l j = ap (λ (x : ℕ). get_or (block_at net b).ports (x + j) 0) (ins-net b l)

  -- ## What the passes need

  pub rowed : Rowed net
  rowed =
      record {
        few = size-high net fields;
        sound = m-ok net fields;
        ported = λ b l. record { small = port_any (block_at net b) net.channels (channels-high net fields) (block_in net fields b l) };
        outs_apart =
            λ a b i j la lb li lj e.
            let x : view.out a i ≡ view.out b j = sym (out_eq a la i) ∙ e ∙ out_eq b lb j in
            let p = leaves-only net [] [] fields joins a i la (subst (λ (k : ℕ). i < k) (outs-eq [] [] a la) li) in
            let q = leaves-only net [] [] fields joins b j lb (subst (λ (k : ℕ). j < k) (outs-eq [] [] b lb) lj) in
            (sym p.0 ∙ ap (producer net) x ∙ q.0, sym p.1 ∙ ap (out_port net) x ∙ q.1);
        ins_apart =
            λ a b i j la lb li lj e.
            let p = enters-only net [] [] fields joins a i la (subst (λ (k : ℕ). i < k) (ins-eq [] [] a la) li) in
            let q = enters-only net [] [] fields joins b j lb (subst (λ (k : ℕ). j < k) (ins-eq [] [] b lb) lj) in
            (sym p.0 ∙ ap (consumer net) e ∙ q.0, sym p.1 ∙ ap (in_port net) e ∙ q.1);
      }

  -- a channel leads from one block to another
  leads : (a b i j : ℕ) → a < net.size → b < net.size → i < outs_no net a → j < ins_no net b → out_no net a i ≡ in_no net b j → Leads net (view.out a i) a b
  leads a b i j la lb li lj e =
      record {
        leaves = output net [] [] fields joins a i la (subst (λ (k : ℕ). i < k) (outs-eq [] [] a la) li);
        enters =
            subst (λ (c : ℕ). HasPort net false c b) (sym e ∙ out_eq a la i) (input net [] [] fields joins b j lb (subst (λ (k : ℕ). j < k) (ins-eq [] [] b lb) lj));
      }

  abbrev listed_of : (control : Bool) (order : List ℕ) → InOrder net control order → Order net.size order
  listed_of control order o = record { place = o.place; listed = o.listed; stands = o.stands }

  pub ahead_of : (order : List ℕ) → InOrder net false order → Whole net rests_ahead order
  ahead_of order o =
      record {
        list = listed_of false order o;
        grows =
            λ a b i j la lb ta tb li lj e.
            o.grows (view.out a i) a b (leads a b i j la lb li lj e) (or_2 (leb (kind_no net b) 1) (eqb (kind_no net b) 8 || eqb (kind_no net b) 9) tb);
      }

  pub back-of : (order : List ℕ) → InOrder net true order → Whole net rests_back order
  back-of order o =
      record {
        list = listed_of true order o;
        grows = λ a b i j la lb ta tb li lj e. o.grows (view.out a i) a b (leads a b i j la lb li lj e) (or_2 (leb (kind_no net a) 1) (eqb (kind_no net a) 10) ta);
      }
