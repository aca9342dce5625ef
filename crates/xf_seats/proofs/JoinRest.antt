-- A seat takes in another one: the parts on the image and on own parts.
use Rattle.std.proofs.Common.{ℕ, List, Option}
use Rattle.xf_types.specs.declared.state.Sa.{Sa}
use Rattle.xf_types.specs.Machine.{Machine}
use Rattle.xf_types.specs.History.{machine_of}
use Rattle.xf_types.specs.Standing.{Standing}
use Rattle.xf_views.specs.declared.view.View.{View}
use Rattle.xf_views.specs.Log.{Mark, receipts_of}
use Rattle.xf_views.specs.TurnSays.{IsSeat}
use Rattle.xf_invariant.specs.Meaning.{Told}
use Rattle.xf_invariant.specs.ImagePart.{IsInImage, ImagePart}
use Rattle.xf_ownpart.specs.OwnPart.{IsInOwn, OwnPart}
use Rattle.xf_seats.specs.Seats.{joined_views}
use Rattle.xf_seats.proofs.Spent.{joined_each}

module _ (views : List View) (i j : ℕ) (v w : View) (is : IsSeat views i v) where
  pub join_keeps_image : (bucket_of : Sa → ℕ) (good : List ℕ → Told → Type 0) (base : List ℕ) (generation : ℕ) (log : List Mark) (words settled : List ℕ)
      → ImagePart bucket_of good base generation log words settled views → ImagePart bucket_of good base generation log words settled (joined_views views i v j w)
  join_keeps_image bucket_of good base generation log words settled b = record {
    stands = b.stands;
    calm = b.calm;
    each = joined_each views i v j w is.there (IsInImage generation log words settled) (λ k u apart e h. b.each k u e h) (b.each i v is.there is.here);
  }

  pub join_keeps_own : (lists : List ℕ → ℕ → Option (Sa × ℕ)) (start : Machine) (settled turns : List ℕ) (log : List Mark) (home : ℕ → Standing)
      → OwnPart lists start settled turns log home views → OwnPart lists start settled turns log home (joined_views views i v j w)
  join_keeps_own lists start settled turns log home o = record {
    marked = o.marked;
    free = o.free;
    each = joined_each views i v j w is.there (IsInOwn lists (machine_of start (receipts_of log)) settled turns log) (λ k u apart e h. o.each k u e h) (o.each i v is.there is.here);
  }
