use Rattle.xf_views.specs.Views.{view_after_ticket, view_after_serving, view_after_store, view_after_leave, view_after_load, view_after_pin, view_after_load_pin, view_after_take, view_after_miss, view_after_give}
use Rattle.xf_legalpart.proofs.AgainRows.{mine, quiet}
use Rattle.xf_legalpart.proofs.again_laws.others_keep_again.Goals as goal

pub returns : goal.returns
returns g k = record {
  ticket = λ most base c t. quiet g.T.Means.bucket_of g.T.Means.good most base c (view_after_ticket c.scene.view t) (mine g.T.Means.bucket_of g.T.Means.good most base c);
  serving = λ most base c serving words. quiet g.T.Means.bucket_of g.T.Means.good most base c (view_after_serving c.scene.view serving words) (mine g.T.Means.bucket_of g.T.Means.good most base c);
  store = λ most base c slots place word. quiet g.T.Means.bucket_of g.T.Means.good most base c (view_after_store slots c.scene.view place word) (mine g.T.Means.bucket_of g.T.Means.good most base c);
  leave = λ most base c. quiet g.T.Means.bucket_of g.T.Means.good most base c (view_after_leave c.scene.view) (mine g.T.Means.bucket_of g.T.Means.good most base c);
  load_word = λ most base c place word. quiet g.T.Means.bucket_of g.T.Means.good most base c (view_after_load c.scene.view place word) (mine g.T.Means.bucket_of g.T.Means.good most base c);
  pin = λ most base c pin. quiet g.T.Means.bucket_of g.T.Means.good most base c (view_after_pin c.scene.view pin) (mine g.T.Means.bucket_of g.T.Means.good most base c);
  load_pin = λ most base c n pin. quiet g.T.Means.bucket_of g.T.Means.good most base c (view_after_load_pin c.scene.view n pin) (mine g.T.Means.bucket_of g.T.Means.good most base c);
  taken = λ most base c slot listed. quiet g.T.Means.bucket_of g.T.Means.good most base c (view_after_take c.scene.view slot listed) (mine g.T.Means.bucket_of g.T.Means.good most base c);
  missed = λ most base c. quiet g.T.Means.bucket_of g.T.Means.good most base c (view_after_miss c.scene.view) (mine g.T.Means.bucket_of g.T.Means.good most base c);
  given = λ most base c slot. quiet g.T.Means.bucket_of g.T.Means.good most base c (view_after_give c.scene.view slot) (mine g.T.Means.bucket_of g.T.Means.good most base c);
}
