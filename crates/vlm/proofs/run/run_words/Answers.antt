use Rattle.std.proofs.Common.{◌∙◌, ap, inr, map, refl, rules}
use Rattle.vlm.specs.declared.arguments.Subject.{Subject}
use Rattle.vlm.specs.Ends.{output_of}
use Rattle.vlm.proofs.Memory.{ends_by_memory}
use Rattle.vlm.proofs.Numbered.{all_known, cluster_started}
use Rattle.vlm.proofs.Play.{play_faultless, play_is_no_cluster, play_is_no_watch}
use Rattle.vlm.proofs.WatchWords.{cluster_is_no_watch, watch_faultless, watch_is_named, watch_started}
use Rattle.vlm.proofs.run.run_words.Goals as goal

-- the words of a run get no error, and ask for no cluster
pub returns-in-Err : goal.returns-in-Err
returns-in-Err g c = record {
  ends = search rules;
  play = λ name are. inr (
    refl,
    ends_by_memory (map g.S.AsStr.text c.args.words.now) _ _ _ _
        (play_faultless name _ are) c.in-Err.ensures.fails c.refused.ensures,
  );
  cluster = λ name nodes least most are. inr (
    refl,
    ends_by_memory (map g.S.AsStr.text c.args.words.now) _ _ _ _
        (all_known name nodes _ least most are).errors c.in-Err.ensures.fails c.refused.ensures,
  );
  watch = λ name res are. inr (
    refl,
    ends_by_memory (map g.S.AsStr.text c.args.words.now) _ _ _ _
        (watch_faultless name res _ are) c.in-Err.ensures.fails c.refused.ensures,
  );
}

pub returns-in-Ok-Cluster : goal.returns-in-Ok-Cluster
returns-in-Ok-Cluster g c = record {
  ends = search rules;
  play =
      let asked = rw c.in-Ok-Cluster.field-0-is at c.in-Ok-Cluster.ensures.asked in
      λ name are. absurd (play_is_no_cluster name _ are asked.command);
  cluster =
      let asked = rw c.in-Ok-Cluster.field-0-is at c.in-Ok-Cluster.ensures.asked in
      λ name nodes least most are.
      cluster_started (map g.S.AsStr.text c.args.words.now) nodes _ _ (g.R.Read.remaining c.args.reader.now) (g.R.Read.remaining c.start_cluster.new.reader)
      (output_of (g.W.Write.contents c.args.writer.now) (g.F.Write.contents c.args.faults.now))
      (output_of (g.W.Write.contents c.start_cluster.new.writer) (g.F.Write.contents c.start_cluster.new.faults))
      c.start_cluster.result least most (all_known name nodes _ least most are) c.in-Ok-Cluster.nodes-is asked c.start_cluster.ensures;
  watch =
      let asked = rw c.in-Ok-Cluster.field-0-is at c.in-Ok-Cluster.ensures.asked in
      λ name res are. absurd (cluster_is_no_watch (map g.S.AsStr.text c.args.words.now) asked.command (watch_is_named name res _ are));
}

pub returns-in-Ok-Watch : goal.returns-in-Ok-Watch
returns-in-Ok-Watch g c = record {
  ends = search rules;
  play =
      let asked = rw c.in-Ok-Watch.field-0-is at c.in-Ok-Watch.ensures.asked in
      λ name are. absurd (play_is_no_watch name _ are asked.command);
  cluster =
      let asked = rw c.in-Ok-Watch.field-0-is at c.in-Ok-Watch.ensures.asked in
      λ name nodes least most are. absurd
      (cluster_is_no_watch (map g.S.AsStr.text c.args.words.now)
      (all_known name nodes _ least most are).named asked.command);
  watch =
      let asked = rw c.in-Ok-Watch.field-0-is at c.in-Ok-Watch.ensures.asked in
      λ name res are.
      watch_started (map g.S.AsStr.text c.args.words.now) name res _ _ (g.R.Read.remaining c.args.reader.now) (g.R.Read.remaining c.start_watch.new.reader)
      (output_of (g.W.Write.contents c.args.writer.now) (g.F.Write.contents c.args.faults.now))
      (output_of (g.W.Write.contents c.start_watch.new.writer) (g.F.Write.contents c.start_watch.new.faults))
      c.start_watch.result are (ap (λ (s : Subject). s.name) c.in-Ok-Watch.subject-is ∙ asked.name)
      (λ none. ap (λ (s : Subject). s.domain) c.in-Ok-Watch.subject-is ∙ asked.system none) c.start_watch.ensures;
}

-- the words of a cluster get none, and ask for it
pub returns-in-Ok-Play : goal.returns-in-Ok-Play
returns-in-Ok-Play g c = record {
  ends = search rules;
  play = search rules;
  cluster =
      let asked = rw c.in-Ok-Play.field-0-is at c.in-Ok-Play.ensures.asked in
      λ name nodes least most are. absurd (asked.no_cluster (all_known name nodes _ least most are).named);
  watch =
      let asked = rw c.in-Ok-Play.field-0-is at c.in-Ok-Play.ensures.asked in
      λ name res are. absurd (asked.no_watch (watch_is_named name res _ are));
}

-- the words of a watch get none, and ask for it
