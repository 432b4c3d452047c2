use Rattle.vlm_records.proofs.Rooms.{room_written}
use Rattle.std.proofs.Common.{refl}
use Rattle.slab.specs.Slab.{with_value}
use Rattle.vlm_records.proofs.Arming.{armed_resources}
use Rattle.vlm_records.proofs.Making.{block_armed, block_list, resources_handles, resources_placed, resources_tallied}
use Rattle.vlm_records.proofs.Making.{written_armed, written_lists, written_tallies}
use Rattle.vlm_records.proofs.queues.Queues.set_value_block.Goals as goal

pub returns-clause-resources_room : goal.returns-clause-resources_room
returns-clause-resources_room c = room_written c.args.self.now.resources c.args.res _ c.requires.there

pub returns-clause-laid_out : goal.returns-clause-laid_out
returns-clause-laid_out c = record {
  placed =
      let q = c.args.self.now in
      resources_placed q (with_value q.resources c.args.res (record c.index_mut.result.now { value_block = c.args.value_block })) c.requires.laid_out.placed
      (written_lists q c.args.res c.index_mut.result.now
      (record c.index_mut.result.now {
        value_block =
            c.args.value_block;
      }) c.requires.there c.index_mut.ensures.value
      (block_list c.index_mut.result.now c.args.value_block));
  tallied =
      let q = c.args.self.now in
      resources_tallied q (with_value q.resources c.args.res (record c.index_mut.result.now { value_block = c.args.value_block })) c.requires.laid_out.placed
      (written_lists q c.args.res c.index_mut.result.now
      (record c.index_mut.result.now {
        value_block =
            c.args.value_block;
      }) c.requires.there c.index_mut.ensures.value
      (block_list c.index_mut.result.now c.args.value_block))
      (written_tallies q c.args.res c.index_mut.result.now
      (record c.index_mut.result.now {
        value_block =
            c.args.value_block;
      }) c.requires.there c.index_mut.ensures.value refl) c.requires.laid_out.tallied;
  armed = λ which.
      let q = c.args.self.now in
      let now = record c.index_mut.result.now { value_block = c.args.value_block } in
      let lists = written_lists q c.args.res c.index_mut.result.now now c.requires.there c.index_mut.ensures.value
      (block_list c.index_mut.result.now c.args.value_block) in
      armed_resources which q (with_value q.resources c.args.res now)
      (written_armed q c.args.res c.index_mut.result.now now c.requires.there c.index_mut.ensures.value which
      (block_armed c.index_mut.result.now c.args.value_block which))
      (resources_handles q (with_value q.resources c.args.res now) c.requires.laid_out.placed lists) (c.requires.laid_out.armed which);
}
