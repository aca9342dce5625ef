-- A seat splits off another one: the parts on the image and on own parts.
use Rattle.std.proofs.Common.{ℕ, true≢false, List, Option, sym}
use mathlib.Core.Option.{some-ne-none}
use Rattle.xf_types.specs.declared.state.Sa.{Sa}
use Rattle.xf_types.specs.Machine.{Machine}
use Rattle.xf_types.specs.History.{machine_of}
use Rattle.xf_types.specs.Standing.{Standing}
use Rattle.xf_views.specs.declared.view.View.{View}
use Rattle.xf_views.specs.Log.{Mark, receipts_of}
use Rattle.xf_views.specs.TurnSays.{IsSeat}
use Rattle.xf_invariant.specs.Meaning.{Told}
use Rattle.xf_invariant.specs.ImagePart.{IsInImage, ImagePart}
use Rattle.xf_ownpart.specs.OwnPart.{IsInOwn, OwnPart}
use Rattle.xf_seats.specs.Seats.{split_views}
use Rattle.xf_seats.proofs.Split.{split_each}

module _ (views : List View) (i : ℕ) (v : View) (is : IsSeat views i v) where
  pub split_keeps_image : (bucket_of : Sa → ℕ) (good : List ℕ → Told → Type 0) (base : List ℕ) (generation : ℕ) (log : List Mark) (words settled : List ℕ)
      → ImagePart bucket_of good base generation log words settled views → ImagePart bucket_of good base generation log words settled (split_views views i v)
  split_keeps_image bucket_of good base generation log words settled b = record {
    stands = b.stands;
    calm = b.calm;
    each = split_each views i v is.there (IsInImage generation log words settled) (λ j u apart e h. b.each j u e h) (b.each i v is.there is.here)
        record {
          image = λ h. absurd (true≢false (sym h));
          settled = λ h. absurd (true≢false (sym h));
          read = λ g h. absurd (cc);
          trial = λ x g h. absurd (cc);
        };
  }

  pub split_keeps_own : (lists : List ℕ → ℕ → Option (Sa × ℕ)) (start : Machine) (settled turns : List ℕ) (log : List Mark) (home : ℕ → Standing)
      → OwnPart lists start settled turns log home views → OwnPart lists start settled turns log home (split_views views i v)
  split_keeps_own lists start settled turns log home o = record {
    marked = o.marked;
    free = o.free;
    each = split_each views i v is.there (IsInOwn lists (machine_of start (receipts_of log)) settled turns log) (λ j u apart e h. o.each j u e h) (o.each i v is.there is.here)
        (λ e has. absurd (some-ne-none e (sym has.1)));
  }
