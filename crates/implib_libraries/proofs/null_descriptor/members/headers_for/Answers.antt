use Rattle.std.proofs.Common.{rules, ◌≡◌, ap, arith, false, inr, refl, subst, sym, true, ◌∙◌}
use Rattle.std.specs.List.{list_any}
use Rattle.implib.specs.Definition.{definition_view}
use Rattle.implib.specs.Import.{holds}
use Rattle.implib.specs.Members.MsvcObjects.{descriptor_symbol, null_thunk_symbol}
use Rattle.implib.specs.Fault.{MemberTooLong, cause_of}
use Rattle.implib.specs.Members.Members.{is_too_long}
use Rattle.implib_rules.specs.Library.{definition_text}
use Rattle.implib_rules.specs.Options.{library_options_view}
use Rattle.implib_rules.specs.Places.{IsAtFault}
use Rattle.implib_rules.proofs.Made.{found_in}
use Rattle.implib_libraries.specs.NullDescriptor.Named.{named_specs}
use Rattle.implib_libraries.proofs.NullDescriptor.Headed.{first_listed, first_symbol_by, long_enough, of_bytes, other_free, third_listed, third_symbol_by, too_long_by}
use Rattle.implib_libraries.proofs.null_descriptor.members.headers_for.Goals as goal

pub symbol-symbol-requires : goal.symbol-symbol-requires
symbol-symbol-requires c =
    let long = long_enough c.args.bytes.now (library_options_view c.args.options.now) c.args.ordinary.now c.requires.members c.requires.msvc in
    (omega (arith, long), first_listed c.args.bytes.now (library_options_view c.args.options.now) c.args.ordinary.now c.requires.members c.requires.msvc)

pub symbol-null_thunk-requires : goal.symbol-null_thunk-requires
symbol-null_thunk-requires c = (
  long_enough c.args.bytes.now (library_options_view c.args.options.now) c.args.ordinary.now c.requires.members c.requires.msvc,
  third_listed c.args.bytes.now (library_options_view c.args.options.now) c.args.ordinary.now c.requires.members c.requires.msvc,
)

pub headers-requires-clause-library_text : goal.headers-requires-clause-library_text
headers-requires-clause-library_text c =
    let options = library_options_view c.args.options.now in
    let meant = of_bytes c.args.bytes.now c.in-Ok.text.now c.in_ok-read.read options (definition_view c.in_ok-def.def) c.in_ok-read.ensures c.in-Ok.ensures c.in_ok-def.ensures.meant in
    subst (λ name. holds 0 name ≡ false) (sym c.in_ok-library.ensures ∙ sym c.as_str.ensures.value)
    (other_free c.args.bytes.now options c.args.ordinary.now c.requires.members c.requires.msvc (definition_view c.in_ok-def.def) meant)

pub headers-requires-clause-symbol : goal.headers-requires-clause-symbol
headers-requires-clause-symbol c =
    let options = library_options_view c.args.options.now in
    let meant = of_bytes c.args.bytes.now c.in-Ok.text.now c.in_ok-read.read options (definition_view c.in_ok-def.def) c.in_ok-read.ensures c.in-Ok.ensures c.in_ok-def.ensures.meant in
    c.symbol-symbol.ensures
    ∙ first_symbol_by c.args.bytes.now options c.args.ordinary.now c.requires.members c.requires.msvc (definition_view c.in_ok-def.def) meant
    ∙ ap descriptor_symbol (sym c.in_ok-library.ensures ∙ sym c.as_str.ensures.value)

pub headers-requires-clause-null_thunk : goal.headers-requires-clause-null_thunk
headers-requires-clause-null_thunk c =
    let options = library_options_view c.args.options.now in
    let meant = of_bytes c.args.bytes.now c.in-Ok.text.now c.in_ok-read.read options (definition_view c.in_ok-def.def) c.in_ok-read.ensures c.in-Ok.ensures c.in_ok-def.ensures.meant in
    c.symbol-null_thunk.ensures
    ∙ third_symbol_by c.args.bytes.now options c.args.ordinary.now c.requires.members c.requires.msvc (definition_view c.in_ok-def.def) meant
    ∙ ap null_thunk_symbol (sym c.in_ok-library.ensures ∙ sym c.as_str.ensures.value)

pub returns-in-Ok-position_of_fault-clause-refused : goal.returns-in-Ok-position_of_fault-clause-refused
returns-in-Ok-position_of_fault-clause-refused c =
    let options = library_options_view c.args.options.now in
    let meant = of_bytes c.args.bytes.now c.in-Ok.text.now c.in_ok-read.read options (definition_view c.in_ok-def.def) c.in_ok-read.ensures c.in-Ok.ensures c.in_ok-def.ensures.meant in
    let found = found_in c.args.bytes.now c.in-Ok.text.now c.in_ok-read.read c.in_ok-read.ensures c.in-Ok.ensures in
    let long : (cause_of c.in-Err-Invalid.fault ≡ MemberTooLong)
    × (list_any is_too_long (named_specs c.args.options.now.machine (record { linked = c.as_str.result.now; text = c.as_str-dll.result.now })) ≡ true) =
    search rules in
    inr (record {
      ordinary = c.args.ordinary.now;
      members_for = c.requires.members;
      msvc = c.requires.msvc;
      too_long =
          too_long_by c.args.bytes.now options c.args.ordinary.now c.requires.members c.requires.msvc (definition_view c.in_ok-def.def) meant c.as_str.result.now c.as_str-dll.result.now
          (c.as_str.ensures.value ∙ c.in_ok-library.ensures) c.as_str-dll.ensures.value long.1;
      fault = c.in-Err-Invalid.fault;
      position = c.in-Ok-position_of_fault.position;
      is = refl;
      cause = long.0;
      at =
          subst (λ cause. IsAtFault (definition_text c.args.bytes.now) cause c.in-Ok-position_of_fault.position) long.0
          (subst (λ text. IsAtFault text (cause_of c.in-Err-Invalid.fault) c.in-Ok-position_of_fault.position) found.0 c.in-Ok-position_of_fault.ensures.at);
    })
