use Rattle.xf_views.specs.Views.{view_after_ticket, view_after_serving, view_after_begin, view_after_store, view_after_finish, view_after_leave, view_after_load, view_after_load_pin, view_after_take, view_after_miss, view_after_give}
use Rattle.xf_stale.proofs.Stale.{quiet, ours}
use Rattle.xf_stale.proofs.laws.others_keep_stale.Goals as goal

pub returns : goal.returns
returns g c = record {
  ticket = λ most base start h t. quiet g.T.Means.bucket_of g.T.Means.good g.T.Lists.lists g.T.Means.id_place g.T.Pools.policies g.T.Pools.states g.met.T.Lists.listing g.met.T.Shows.shows most base start h (view_after_ticket h.shift.scene.view t) (ours g.T.Means.bucket_of g.T.Means.good g.T.Lists.lists g.T.Means.id_place g.T.Pools.policies g.T.Pools.states g.met.T.Lists.listing g.met.T.Shows.shows most base start h);
  serving = λ most base start h serving words. quiet g.T.Means.bucket_of g.T.Means.good g.T.Lists.lists g.T.Means.id_place g.T.Pools.policies g.T.Pools.states g.met.T.Lists.listing g.met.T.Shows.shows most base start h (view_after_serving h.shift.scene.view serving words) (ours g.T.Means.bucket_of g.T.Means.good g.T.Lists.lists g.T.Means.id_place g.T.Pools.policies g.T.Pools.states g.met.T.Lists.listing g.met.T.Shows.shows most base start h);
  begin = λ most base start h. quiet g.T.Means.bucket_of g.T.Means.good g.T.Lists.lists g.T.Means.id_place g.T.Pools.policies g.T.Pools.states g.met.T.Lists.listing g.met.T.Shows.shows most base start h (view_after_begin h.shift.scene.view) (ours g.T.Means.bucket_of g.T.Means.good g.T.Lists.lists g.T.Means.id_place g.T.Pools.policies g.T.Pools.states g.met.T.Lists.listing g.met.T.Shows.shows most base start h);
  store = λ most base start h slots place word. quiet g.T.Means.bucket_of g.T.Means.good g.T.Lists.lists g.T.Means.id_place g.T.Pools.policies g.T.Pools.states g.met.T.Lists.listing g.met.T.Shows.shows most base start h (view_after_store slots h.shift.scene.view place word) (ours g.T.Means.bucket_of g.T.Means.good g.T.Lists.lists g.T.Means.id_place g.T.Pools.policies g.T.Pools.states g.met.T.Lists.listing g.met.T.Shows.shows most base start h);
  finish = λ most base start h. quiet g.T.Means.bucket_of g.T.Means.good g.T.Lists.lists g.T.Means.id_place g.T.Pools.policies g.T.Pools.states g.met.T.Lists.listing g.met.T.Shows.shows most base start h (view_after_finish h.shift.scene.view) (ours g.T.Means.bucket_of g.T.Means.good g.T.Lists.lists g.T.Means.id_place g.T.Pools.policies g.T.Pools.states g.met.T.Lists.listing g.met.T.Shows.shows most base start h);
  leave = λ most base start h. quiet g.T.Means.bucket_of g.T.Means.good g.T.Lists.lists g.T.Means.id_place g.T.Pools.policies g.T.Pools.states g.met.T.Lists.listing g.met.T.Shows.shows most base start h (view_after_leave h.shift.scene.view) (ours g.T.Means.bucket_of g.T.Means.good g.T.Lists.lists g.T.Means.id_place g.T.Pools.policies g.T.Pools.states g.met.T.Lists.listing g.met.T.Shows.shows most base start h);
  load_word = λ most base start h place word. quiet g.T.Means.bucket_of g.T.Means.good g.T.Lists.lists g.T.Means.id_place g.T.Pools.policies g.T.Pools.states g.met.T.Lists.listing g.met.T.Shows.shows most base start h (view_after_load h.shift.scene.view place word) (ours g.T.Means.bucket_of g.T.Means.good g.T.Lists.lists g.T.Means.id_place g.T.Pools.policies g.T.Pools.states g.met.T.Lists.listing g.met.T.Shows.shows most base start h);
  load_pin = λ most base start h n pin. quiet g.T.Means.bucket_of g.T.Means.good g.T.Lists.lists g.T.Means.id_place g.T.Pools.policies g.T.Pools.states g.met.T.Lists.listing g.met.T.Shows.shows most base start h (view_after_load_pin h.shift.scene.view n pin) (ours g.T.Means.bucket_of g.T.Means.good g.T.Lists.lists g.T.Means.id_place g.T.Pools.policies g.T.Pools.states g.met.T.Lists.listing g.met.T.Shows.shows most base start h);
  taken = λ most base start h slot listed. quiet g.T.Means.bucket_of g.T.Means.good g.T.Lists.lists g.T.Means.id_place g.T.Pools.policies g.T.Pools.states g.met.T.Lists.listing g.met.T.Shows.shows most base start h (view_after_take h.shift.scene.view slot listed) (ours g.T.Means.bucket_of g.T.Means.good g.T.Lists.lists g.T.Means.id_place g.T.Pools.policies g.T.Pools.states g.met.T.Lists.listing g.met.T.Shows.shows most base start h);
  missed = λ most base start h. quiet g.T.Means.bucket_of g.T.Means.good g.T.Lists.lists g.T.Means.id_place g.T.Pools.policies g.T.Pools.states g.met.T.Lists.listing g.met.T.Shows.shows most base start h (view_after_miss h.shift.scene.view) (ours g.T.Means.bucket_of g.T.Means.good g.T.Lists.lists g.T.Means.id_place g.T.Pools.policies g.T.Pools.states g.met.T.Lists.listing g.met.T.Shows.shows most base start h);
  given = λ most base start h slot. quiet g.T.Means.bucket_of g.T.Means.good g.T.Lists.lists g.T.Means.id_place g.T.Pools.policies g.T.Pools.states g.met.T.Lists.listing g.met.T.Shows.shows most base start h (view_after_give h.shift.scene.view slot) (ours g.T.Means.bucket_of g.T.Means.good g.T.Lists.lists g.T.Means.id_place g.T.Pools.policies g.T.Pools.states g.met.T.Lists.listing g.met.T.Shows.shows most base start h);
}
