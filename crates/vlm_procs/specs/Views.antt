-- The view of a process.
use Rattle.std.specs.Prelude.{◌/◌, length}
use Rattle.vlm_words.specs.State.{Process}
use Rattle.vlm_procs.specs.declared.views.ProcessView.{ProcessView}

-- a process as it was declared, and how many ASTs are pending for it
abbrev pub process_view : Process → ProcessView
process_view p = record {
  pid = p.pid;
  node = p.pid / 65536;
  group = p.group;
  syslck = p.syslck;
  quota = p.quota;
  blocks = length p.blocks;
  pending = length p.asts;
}
