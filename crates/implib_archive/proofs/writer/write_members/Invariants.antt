use Rattle.std.proofs.Common.{flat_map, take}
use Rattle.std.specs.Io.KnownBytes.{Appends}
use Rattle.implib_archive.specs.Archive.{member_part}
use Rattle.implib_archive.specs.Pushed.{IsHeaderBefore, shown}
use Rattle.implib_archive.proofs.writer.write_members.Given as goal

-- the members so far, and the header of the last one
abbrev pub invariant-loop-index : goal.invariant-loop-index
invariant-loop-index g l = record {
  written : Appends (g.W.Write.contents l.fn.writer) (g.W.Write.contents l.writer)
      (flat_map (member_part (shown l.names.offsets.entries)) (take l.index (g.S.Members.members l.source)));
  headed : IsHeaderBefore (shown l.names.offsets.entries) (g.S.Members.members l.source) l.index l.header.items;
}
