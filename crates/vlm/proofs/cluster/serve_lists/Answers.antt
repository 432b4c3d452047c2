use Rattle.std.proofs.Common.{refl}
use Rattle.vlm.proofs.Listed.{listed_posts}
use Rattle.vlm.proofs.cluster.serve_lists.Goals as goal

-- each list holds posts of its node alone
pub serve_lists_over-requires-clause-posts : goal.serve_lists_over-requires-clause-posts
serve_lists_over-requires-clause-posts g c κs within = listed_posts c.args.lists.items c.requires.listed

-- the gates never stop
pub returns-in-Ok-clause-served : goal.returns-in-Ok-clause-served
returns-in-Ok-clause-served g c = record {
  served = c.in-Ok.ensures.serving.served;
  posted = c.in-Ok.ensures.serving.whole refl;
  modes = c.in-Ok.ensures.serving.modes;
  once = c.in-Ok.ensures.serving.once;
  order = c.in-Ok.ensures.serving.order;
}
