-- Which words and turns a call leaves.
use Rattle.std.proofs.Common.{arith, ℕ, ◌≡◌, ◌≤◌, List, length, refl, sym, ◌∙◌, subst}
use Rattle.xf_image.specs.Frames.{Frame}
use Rattle.xf_inexact.specs.Whole.{whole_end}
use Rattle.xf_sadidx.specs.Layout.{end_of}
use Rattle.xf_rows.specs.declared.layout.Layout.{Layout}
use Rattle.xf_rows.specs.Layouts.{Fits}
use Rattle.std.proofs.lemmas.List.{length-set}
use Rattle.std.proofs.Common.{ap}
use Rattle.xf_local.specs.View.{LocalView}
use Rattle.std.proofs.Common.{Option}
use Rattle.xf_rows.specs.Values.{Beside, value_put}
use Rattle.xf_rows.specs.Changes.{ended}
use Rattle.xf_rows.proofs.Valued.{one_ended, ended_count}
use Rattle.xf_statecalls.specs.Ready.{LeavesOthers}

pub others_none : (layout : Layout) (hidden : ℕ) (i j : List ℕ) (b c : Beside) → j ≡ i → c ≡ b → LeavesOthers layout hidden i j b c
others_none layout hidden i j b c e f =
    subst (λ (k : List ℕ). LeavesOthers layout hidden i k b c) (sym e)
    (subst (λ (d : Beside). LeavesOthers layout hidden i i b d) (sym f) (record { size = refl; between = λ q h l. refl; above = λ q l. refl; count = refl; turns = refl }))

-- the hidden words lie before those of the states
pub hidden_low : (layout : Layout) (size hidden : ℕ) → Fits layout size → hidden ≤ layout.policies.base → hidden ≤ layout.states.base
hidden_low layout size hidden fits low =
    let order : whole_end layout.policies ≤ layout.states.base = fits.order in
    omega (arith, order, low)

-- the states' words were written, and then hidden ones
pub others_both : (layout : Layout) (size hidden : ℕ) (i j k : List ℕ) (b c : Beside) → Fits layout size → hidden ≤ layout.policies.base
    → Frame layout.states.base (end_of layout.states) i j → Frame 0 hidden j k → length c.values ≡ length b.values → c.held ≡ b.held
    → LeavesOthers layout hidden i k b c
others_both layout size hidden i j k b c fits low first then_ count turns =
    let before : hidden ≤ layout.states.base = hidden_low layout size hidden fits low in
    record {
      size = then_.size ∙ first.size;
      between = λ q h l. then_.above q h ∙ first.below q l;
      above = λ q l. then_.above q (omega (arith, before, l)) ∙ first.above q l;
      count = count;
      turns = turns;
    }

-- the states' words alone
pub others_words : (layout : Layout) (hidden : ℕ) (i j : List ℕ) (b c : Beside) → Frame layout.states.base (end_of layout.states) i j
    → length c.values ≡ length b.values → c.held ≡ b.held → LeavesOthers layout hidden i j b c
others_words layout hidden i j b c frame count turns =
    record { size = frame.size; between = λ q h l. frame.below q l; above = frame.above; count = count; turns = turns }

-- one after the other
pub others_twice : (layout : Layout) (hidden : ℕ) (i j k : List ℕ) (b c d : Beside) → LeavesOthers layout hidden i j b c → LeavesOthers layout hidden j k c d
    → LeavesOthers layout hidden i k b d
others_twice layout hidden i j k b c d one two = record {
  size = two.size ∙ one.size;
  between = λ q h l. two.between q h l ∙ one.between q h l;
  above = λ q l. two.above q l ∙ one.above q l;
  count = two.count ∙ one.count;
  turns = two.turns ∙ one.turns;
}

-- after loads that left words and values
pub others_as : (layout : Layout) (hidden own : ℕ) (i j k : List ℕ) (b c d : Beside) → own ≡ hidden → j ≡ i → c ≡ b → LeavesOthers layout own j k c d
    → LeavesOthers layout hidden i k b d
others_as layout hidden own i j k b c d h e f others =
    subst (λ (x : List ℕ). LeavesOthers layout hidden x k b d) e
    (subst (λ (x : Beside). LeavesOthers layout hidden j k x d) f (subst (λ (n : ℕ). LeavesOthers layout n j k c d) h others))

-- ---- values

pub put_count : (b c d : Beside) (slot : ℕ) (v : LocalView) → d ≡ b → c ≡ value_put d slot v → length c.values ≡ length b.values
put_count b c d slot v e f = ap (λ (x : Beside). length x.values) f ∙ length-set d.values slot v ∙ ap (λ (x : Beside). length x.values) e

pub put_held : (b c d : Beside) (slot : ℕ) (v : LocalView) → d ≡ b → c ≡ value_put d slot v → c.held ≡ b.held
put_held b c d slot v e f = ap (λ (x : Beside). x.held) f ∙ ap (λ (x : Beside). x.held) e

pub turned_count : (b c d : Beside) (gone : Option ℕ) (slot : ℕ) (v : LocalView) → d ≡ b → c ≡ value_put (ended d gone) slot v → length c.values ≡ length b.values
turned_count b c d gone slot v e f =
    ap (λ (x : Beside). length x.values) f ∙ length-set (ended d gone).values slot v ∙ ended_count d gone ∙ ap (λ (x : Beside). length x.values) e

pub turned_held : (b c d : Beside) (gone : Option ℕ) (slot : ℕ) (v : LocalView) → d ≡ b → c ≡ value_put (ended d gone) slot v → c.held ≡ b.held
turned_held b c d gone slot v e f =
    let end = one_ended d gone in
    ap (λ (x : Beside). x.held) f ∙ end.held ∙ ap (λ (x : Beside). x.held) e
