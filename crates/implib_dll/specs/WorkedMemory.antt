-- An image in memory worked by hand: `worked_pe32` of `WorkedFiles`, mapped.
use Rattle.std.specs.Prelude.{◌≡◌, ℕ, ◌++◌, List, [], Some, None, Ok, Err, codes, drop, replicate}
use Rattle.std.specs.Prelude.{take}
use Rattle.std.specs.declared.cmp.Ordering.TheVariants.{Less, Equal, Greater}
use Rattle.implib_dll.specs.declared.fault.Cause.TheVariants.{SectionDataCut}
use Rattle.implib_dll.specs.declared.header.Entry.{Entry}
use Rattle.implib_dll.specs.declared.section.Layout.TheVariants.{File, Image}
use Rattle.implib_dll.specs.Digits.{hex}
use Rattle.implib_dll.specs.Exports.{exports_in}
use Rattle.implib_dll.specs.Memory.{byte_at, half_at, order_from, position_in, word_at}
use Rattle.implib_dll.specs.Outcome.{Read, refusal}
use Rattle.implib_dll.specs.Sections.{Section, sections_in}
use Rattle.implib_dll.specs.WorkedFiles.{worked_exports, worked_pe32}

-- The image: the headers, `.text` at 0x1000, and `.edata` at 0x3000, which ends at 0x3069.
unfoldable pub worked_image : List ℕ
worked_image =
    take 0x138 worked_pe32
    ++ (replicate 3784 0 ++ (hex "c3 90 90 90" ++ (replicate 8188 0 ++ drop 0x13C worked_pe32)))

-- the sections of a reading
abbrev pub sections_found : Read (List Section × ℕ) → List Section
sections_found (Ok (sections, end)) = sections
sections_found (Err fault) = []

-- the sections of the file
unfoldable pub worked_sections : List Section
worked_sections = sections_found (sections_in File worked_pe32 0xC0 3)

-- data directory 0
abbrev pub worked_entry : Entry
worked_entry = record { place = 0xB8; rva = 0x3000; size = 0x69 }

-- What is in memory, and what a lookup finds there.
pub record WorkedMemory : Type 0 where
  -- an image is read as the file is; one that lacks a byte is refused
  pub image : exports_in Image worked_image ≡ Ok (Some worked_exports)
  pub image_cut : exports_in Image (take 12392 worked_image) ≡ refusal SectionDataCut 0x124
  -- the first byte of `.text` and the byte before it, a byte of `.bss`, the `a` of alpha, the NUL
  -- before it, and past all
  pub code : byte_at worked_sections 0x1000 ≡ 0xC3
  pub before : byte_at worked_sections 0xFFF ≡ 0
  pub bss : byte_at worked_sections 0x2004 ≡ 0
  pub letter : byte_at worked_sections 0x3054 ≡ 0x61
  pub nul : byte_at worked_sections 0x3053 ≡ 0
  pub past : byte_at worked_sections 0x3069 ≡ 0
  -- how many names there are, the address of beta, and the index of gamma
  pub count : word_at worked_sections 0x3018 ≡ 3
  pub address : word_at worked_sections 0x3040 ≡ 0x305A
  pub index : half_at worked_sections 0x304C ≡ 3
  -- alpha against itself, a name that begins it, one that it begins, one below and one above
  pub same : order_from worked_sections 0x3054 (codes "alpha") ≡ Equal
  pub shorter : order_from worked_sections 0x3054 (codes "alph") ≡ Greater
  pub longer : order_from worked_sections 0x3054 (codes "alphas") ≡ Less
  pub below : order_from worked_sections 0x3054 (codes "alpaha") ≡ Greater
  pub above : order_from worked_sections 0x3054 (codes "b") ≡ Less
  -- lookups: with a right hint, one too low, the number of names, and of no name
  pub right : position_in worked_sections worked_entry (codes "beta") 1 ≡ Some 1
  pub low : position_in worked_sections worked_entry (codes "beta") 0 ≡ Some 1
  pub hint_past : position_in worked_sections worked_entry (codes "gamma") 3 ≡ Some 2
  pub none : position_in worked_sections worked_entry (codes "delta") 0 ≡ None
