use Rattle.std.proofs.Common.{arith, map}
use Rattle.implib.specs.Library.{member_view}
use Rattle.implib_rules.specs.Options.{library_options_view}
use Rattle.implib_libraries.proofs.NullDescriptor.Headed.{long_enough, named_made, two_headers}
use Rattle.implib_libraries.proofs.null_descriptor.members.named_members_for.Goals as goal

pub invariant_of-result : goal.invariant_of-result
invariant_of-result c =
    let options = library_options_view c.args.options.now in
    let long = long_enough c.args.bytes.now options c.in_ok-ordinary.ordinary c.in_ok-ordinary.ensures.made c.in-Msvc.is in
    let two = two_headers c.in_ok-headers-in-Msvc.headers.items c.args.bytes.now options c.in_ok-headers-in-Msvc.ensures.made in
    omega (arith, long, two)

pub returns-in_ok-headers-in-Msvc-clause-made : goal.returns-in_ok-headers-in-Msvc-clause-made
returns-in_ok-headers-in-Msvc-clause-made c =
    let options = library_options_view c.args.options.now in
    let headers = c.in_ok-headers-in-Msvc.headers.items in
    named_made c.args.bytes.now options c.in_ok-ordinary.ordinary c.in_ok-ordinary.ensures.made c.in-Msvc.is (map member_view headers) _ c.in_ok-headers-in-Msvc.ensures.made
    (two_headers headers c.args.bytes.now options c.in_ok-headers-in-Msvc.ensures.made)
