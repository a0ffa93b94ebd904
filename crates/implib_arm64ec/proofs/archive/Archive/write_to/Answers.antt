use Rattle.std.proofs.Common.{arith, ◌++◌, ◌∙◌, ap, flat_map}
use Rattle.implib_archive.specs.Archive.{front, member_part}
use Rattle.implib_archive.specs.Pushed.{shown}
use Rattle.implib_archive.specs.declared.kind.Kind.TheVariants.{Coff}
use Rattle.implib_archive.proofs.Puts.{appends_then, begins_more, begins_then, writes_as, writes_err, writes_then}
use Rattle.implib_arm64ec.specs.Archive.{arm64_entries, ec_entries, ec_members, ec_part, library_names, member_places}
use Rattle.implib_arm64ec.specs.Library.{listing_members}
use Rattle.implib_arm64ec.proofs.Making.{members_made, whole_archive}
use Rattle.implib_arm64ec.proofs.archive.Archive.write_to.Goals as goal

pub returns-in_err-write_start : goal.returns-in_err-write_start
returns-in_err-write_start g c = grind (arith, writes_err, whole_archive c.args.self.now, begins_more, c.from_residual-in_err-write_start.ensures.0, c.in_err-write_start.ensures)

pub returns-in_err-write_ec_index : goal.returns-in_err-write_ec_index
returns-in_err-write_ec_index g c = grind (arith, writes_err, whole_archive c.args.self.now, begins_more, begins_then, c.from_residual-in_err-write_ec_index.ensures.0, c.in_ok-write_start.ensures, c.in_err-write_ec_index.ensures)

pub returns : goal.returns
returns g c =
    let v = c.args.self.now in
    let start = front Coff (member_places v) (arm64_entries v) (library_names v) in
    let index = ec_part (ec_entries v) in
    let parts = flat_map (member_part (shown c.self.inside.names.offsets.entries)) (listing_members c.self.inside.source) in
    writes_as c.write_members.result _ _ (ap (λ t. (start ++ index) ++ t) (members_made c.self.invariant ∙ ap ec_members c.self.view_is) ∙ whole_archive v)
    (writes_then c.write_members.result _ _ _ (start ++ index) parts (appends_then _ _ _ start index c.in_ok-write_start.ensures c.in_ok-write_ec_index.ensures) c.write_members.ensures)
