-- What an image tells after one move more.
use Rattle.std.proofs.Common.{◌≡◌, ℕ, List, [], ◌∷◌, ◌++◌, refl}
use Rattle.xf_types.specs.declared.call.Receipt.{Receipt}
use Rattle.xf_types.specs.declared.state.Sa.{Sa}
use Rattle.xf_invariant.specs.Meaning.{Told, told_after, told_after_moves}

pub told-append : (bucket_of : Sa → ℕ) (t : Told) (rs : List Receipt) (r : Receipt) → told_after_moves bucket_of t (rs ++ r ∷ []) ≡ told_after bucket_of (told_after_moves bucket_of t rs) r
told-append bucket_of t [] r = refl
told-append bucket_of t (q ∷ rs) r = told-append bucket_of (told_after bucket_of t q) rs r
