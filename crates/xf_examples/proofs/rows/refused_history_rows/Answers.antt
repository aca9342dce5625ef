use Rattle.std.proofs.Common.{arith, refl, lit<}
use Rattle.xf_examples.proofs.rows.refused_history_rows.Goals as goal

pub returns : goal.returns
returns c = record {
  again_at_front = λ h. let f = h.replies.0.2 in omega arith;
  again_without_try = λ h. let f = h.replies.1.1.0.1 in omega arith;
  again_too_often = λ h. let f = h.replies.1.1.0.2 in omega arith;
  again_of_own_moves = λ h. let f = h.replies.1.1.0.2 in omega arith;
  again_of_count = λ h. let f = h.replies.1.1.0.0 in cc;
  again_of_trial = λ h. let f = h.replies.1.1.0.0 in cc;
  again_of_output = λ h. let f = h.replies.1.1.0.0 in cc;
  again_of_add = λ h. let f = h.replies.1.1.0.0 in cc;
  full_without_removal = λ h. let f = h.replies.1.0.0.few in omega arith;
  full_of_other_list = λ h. let f = h.replies.1.1.1.1.0.0.few in omega arith;
  full_with_another_live = λ h. let f = h.replies.1.1.1.1.0.0.live_is in omega arith;
  full_with_slots_left = λ h. let f = h.replies.1.1.1.1.0.0.sum_is in omega arith;
  full_with_too_many = λ h. let f = h.replies.1.1.1.1.0.0.sum_is in omega arith;
  full_of_count = λ h. let f = h.replies.1.1.0.1 in cc;
  full_of_listed = λ h. let f = h.replies.1.1.1.0.1 in cc;
  full_with_room = λ h. let f = h.replies.1.0 in cc;
  equal_numbers = λ h. let f = h.in_order.0 in omega arith;
  falling_numbers = λ h. let f = h.in_order.0 in omega arith;
  rising_numbers = record { in_order = (lit< tt, tt); replies = (refl, (refl, tt)) };
  wrong_index = λ h. let f = h.replies.0 in cc;
  wrong_kind = λ h. let f = h.replies.0 in cc;
  no_entry = λ h. let f = h.replies.0 in cc;
  added_without_memory = λ h. let f = h.replies.1.0 in cc;
  not_added = record { in_order = (lit< tt, tt); replies = (tt, (refl, tt)) };
  accepted_twice = λ h. let f = h.replies.1.1.0 in cc;
  not_once = λ h. h 0 1 (record { sid = 0; number = 0 }) (lit< tt) (lit< tt) refl;
  seen = record { in_order = (lit< tt, (lit< tt, tt)); replies = (refl, (refl, (refl, tt))) };
}
