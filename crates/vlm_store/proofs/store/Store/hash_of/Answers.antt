use Rattle.std.proofs.Common.{take, ◌∙◌, ap, sym}
use Rattle.vlm_collections.specs.declared.hashers.HashKeys.{HashKeys}
use Rattle.vlm_store.specs.Index.{hash_key}
use Rattle.vlm_store.specs.Kept.{beside_shown}
use Rattle.vlm_store.specs.Store.{tables}
use Rattle.vlm_store.proofs.Kinship.{records_keys}
use Rattle.vlm_collections.specs.Hashing.{hash_of}
use Rattle.vlm_words.specs.NameWords.{word_count}
use Rattle.vlm_store.proofs.store.Store.hash_of.Goals as goal

pub returns : goal.returns
returns c =
    let s = c.self.inside in
    rw (← c.self.view_is) (c.hash_of.ensures
    ∙ ap (λ n. hash_of s.keys (take n c.words-words.result)) c.word_count.ensures
    ∙ ap (λ words. hash_of s.keys (take (word_count c.args.key.now) words)) c.words-words.ensures
    ∙ ap (λ (h : HashKeys). hash_key h c.args.key.now)
    (sym (records_keys (tables s.queues s.order (beside_shown s)))))
