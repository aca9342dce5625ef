-- What is written in the chains of all, where a state comes last, and where one leaves.
use Rattle.std.specs.Prelude.{ℕ, List, Option, None, Some}
use Rattle.xf_chain.specs.Chains.{first_in, next_in}
use Rattle.xf_chain.specs.Families.{chain_at, put_in, taken_out}
use Rattle.xf_sadidx.specs.declared.area.StateArea.{StateArea}
use Rattle.xf_sadidx.specs.Layout.{order_of, back_of}

-- the slot of the last state
abbrev pub last_in : StateArea → List ℕ → Option ℕ
last_in a image = first_in (chain_at (back_of a) 0) image

-- the slot of the state that was added before one, and of the one added after it
abbrev pub before_in : StateArea → List ℕ → ℕ → Option ℕ
before_in a image slot = next_in (chain_at (back_of a) 0) image slot

abbrev pub after_in : StateArea → List ℕ → ℕ → Option ℕ
after_in a image slot = next_in (chain_at (order_of a) 0) image slot

-- the words with a slot behind another one in the order, and in front of the chain from the last one back
abbrev pub linked : StateArea → List ℕ → Option ℕ → ℕ → List ℕ
linked a image after slot = put_in (back_of a) (put_in (order_of a) image (Some 0) after slot) (Some 0) None slot

-- the words without a slot, which stands behind the one and before the other
abbrev pub cut_out : StateArea → List ℕ → Option ℕ → Option ℕ → ℕ → List ℕ
cut_out a image before after slot = taken_out (back_of a) (taken_out (order_of a) image (Some 0) before slot) (Some 0) after slot
