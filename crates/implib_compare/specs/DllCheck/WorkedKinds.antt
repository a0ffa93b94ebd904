-- The kinds of exports worked by hand: of `f.dll`, which forwards to a function and to a variable
-- of `deep.name.drv`, to the variable through `g.dll`, to nothing, and to itself; and which has a
-- function and a variable of its own.
use Rattle.std.specs.Prelude.{◌≡◌, ℕ, Bool, true, false, List, [], ◌∷◌, None, Some, codes, count_by}
use Rattle.std.specs.Prelude.{map}
use Rattle.implib_dll.specs.Exports.{Address, Exports, Forwarder}
use Rattle.implib_dll.specs.WorkedFiles.{named, worked_exports}
use Rattle.implib_dll.specs.declared.section.AddressKind.TheVariants.{Code, Data}
use Rattle.implib_compare.specs.DllCheck.Forwarding.{Beside, Holds, Known, end_by}
use Rattle.implib_compare.specs.DllCheck.Forwarding.{known_by, known_in}
use Rattle.implib_compare.specs.DllCheck.Kinds.{is_astray, is_data_end}
use Rattle.implib_compare.specs.DllCheck.Kinds.{kinds_followed, last_target, unknown_dlls}
use Rattle.implib_compare.specs.DllCheck.WorkedForwarding.{others}
use Rattle.implib_libraries.specs.FromDll.Definition.{exports_of}
use Rattle.implib_libraries.specs.FromDll.Worked.{export}

abbrev pub f_exports : Exports
f_exports = record worked_exports {
  dll = codes "f.dll";
  base = 1;
  targets =
      Address 0x1000 Code
      ∷ Address 0x2004 Data
      ∷ Forwarder (codes "Deep.Name.drv.#7")
      ∷ Forwarder (codes "Deep.Name.drv.#8")
      ∷ Forwarder (codes "G.variable")
      ∷ Forwarder (codes "gone.variable")
      ∷ Forwarder (codes "k.variable")
      ∷ Forwarder (codes "F.own")
      ∷ Forwarder (codes "deep.name.drv.#8") ∷ [];
  names =
      named (codes "code") 0 ∷ named (codes "own") 1 ∷ named (codes "to_code") 2
      ∷ named (codes "to_data") 3
      ∷ named (codes "through") 4 ∷ named (codes "to_none") 5 ∷ named (codes "to_nothing") 6
      ∷ named (codes "to_own") 7 ∷ [];
}

-- a DLL that forwards its variable to that of `deep.name.drv`
abbrev pub g_exports : Exports
g_exports = record worked_exports {
  base = 1;
  targets = Forwarder (codes "deep.name.drv.#8") ∷ [];
  names = named (codes "variable") 0 ∷ [];
}

abbrev pub known : List Known
known = record { name = codes "g.dll"; content = Holds g_exports } ∷ others

-- that DLL, beside others, and beside none
abbrev pub beside : Beside
beside = record { exports = f_exports; names = codes "f.dll" ∷ []; others = known_in known }

abbrev pub beside_none : Beside
beside_none = record beside { others = λ name. None }

-- a DLL whose one export is forwarded, beside the same DLLs
abbrev pub forwarding : List ℕ → Beside
forwarding text =
    record beside { exports = record f_exports { targets = Forwarder text ∷ []; names = [] } }

-- whether that is data, and whether it is forwarded to nothing
abbrev pub is_data : List ℕ → List Bool
is_data text =
    map (λ x. x.is_data) (kinds_followed (forwarding text) (exports_of (forwarding text).exports))

pub record WorkedKinds : Type 0 where
  -- beside the others
  pub followed : kinds_followed beside (exports_of f_exports) ≡
      export (codes "code") 0 false false
      ∷ export (codes "own") 1 false true
      ∷ export (codes "to_code") 2 false false
      ∷ export (codes "to_data") 3 false true
      ∷ export (codes "through") 4 false true
      ∷ export (codes "to_none") 5 false false
      ∷ export (codes "to_nothing") 6 false false
      ∷ export (codes "to_own") 7 false true
      ∷ export (codes "ord_9") 9 true true ∷ []
  -- two are forwarded to nothing: to a DLL that is not there, and to a name that one does not have
  pub astray : count_by (is_astray beside) (exports_of f_exports) ≡ 2
  -- where nothing is known of others, one is to the DLL itself
  pub by_itself : map (λ x. x.is_data) (kinds_followed beside_none (exports_of f_exports))
      ≡ false ∷ true ∷ false ∷ false ∷ false ∷ false ∷ false ∷ true ∷ false ∷ []
  pub unknown : unknown_dlls beside_none (exports_of f_exports)
      ≡ codes "deep.name.drv" ∷ codes "deep.name.drv" ∷ codes "g.dll" ∷ codes "gone.dll"
      ∷ codes "k.dll" ∷ codes "deep.name.drv" ∷ []
  -- one export: to data of a DLL for another machine, to one that is refused, and to a hole
  pub other_machine : is_data (codes "other.f") ≡ false ∷ []
  pub refused : is_data (codes "bad.f") ≡ false ∷ []
  pub hole : is_data (codes "deep.name.drv.#6") ≡ false ∷ []
  -- the last target, through two DLLs, and no further than one; none; and another kind of it
  pub last : last_target 2 (known_by beside) 0x14C (codes "G.variable") ≡ Some (Address 0x2000 Data)
  pub one_of_two : last_target 1 (known_by beside) 0x14C (codes "G.variable") ≡ None
  -- a circle, and its end; and ends that are no data
  pub in_circle : is_data_end (Some (end_by 50 (known_by beside) 0x14C false (codes "round.a")))
      ≡ false
  pub circle_last : last_target 50 (known_by beside) 0x14C (codes "round.a") ≡ None
