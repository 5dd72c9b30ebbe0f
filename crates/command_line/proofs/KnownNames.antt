-- References to names that are known.
use Rattle.std.proofs.Common.{◌∙◌, ◌≡◌, ◌∷◌, [], ℕ, zero, suc, List, ap, subst, sym, refl}
use Rattle.std.specs.Borrow.{Bor}
use Rattle.clap.specs.Words.{Text}
use Rattle.command_line.specs.Arguments.{AreTables, Names, Tables, explained_names, format_names, level_names, texts_of}

abbrev Pointer : Type 0
Pointer = ℕ × ℕ

abbrev references : List Text → (ℕ → Pointer) → List (Bor Text)
references [] at = []
references (n ∷ ns) at = record { ref_ptr = at 0; now = n } ∷ references ns (λ i. at (suc i))

abbrev place : List (Bor Text) → ℕ → Pointer
place [] i = (0, 0)
place (x ∷ xs) zero = x.ref_ptr
place (x ∷ xs) (suc i) = place xs i

abbrev pub named : Pointer → (ℕ → Pointer) → List Text → Names
named p at ns = record { ref_ptr = p; now = references ns at }

rebuilt : (xs : List (Bor Text)) → xs ≡ references (texts_of (record { ref_ptr = (0, 0); now = xs })) (place xs)
rebuilt [] = refl
rebuilt (x ∷ xs) = ap (λ rest. x ∷ rest) (rebuilt xs)

names_are : (names : Names) (ns : List Text) → texts_of names ≡ ns → names ≡ named names.ref_ptr (place names.now) ns
names_are names ns are =
    ap (λ (xs : List (Bor Text)). record { ref_ptr = names.ref_ptr; now = xs }) (rebuilt names.now) ∙ ap (named names.ref_ptr (place names.now)) are

-- where references point
pub record Places : Type 0 where
  pub levels : Pointer
  pub formats : Pointer
  pub explained : Pointer
  pub level : ℕ → Pointer
  pub format : ℕ → Pointer
  pub kind : ℕ → Pointer

abbrev pub tables : Places → Tables
tables x = record {
  levels = named x.levels x.level level_names;
  formats = named x.formats x.format format_names;
  explained = named x.explained x.kind explained_names;
}

-- what holds of references to these names, wherever they point, holds of all tables
pub for_tables : (P : Tables → Type 0) → ((x : Places) → P (tables x)) → (t : Tables) → AreTables t → P t
for_tables P holds t are =
    subst P (sym (λ i. record {
      levels = names_are t.levels level_names are.0 i;
      formats = names_are t.formats format_names are.1 i;
      explained = names_are t.explained explained_names are.2 i;
    })) (holds (record {
      levels = t.levels.ref_ptr;
      formats = t.formats.ref_ptr;
      explained = t.explained.ref_ptr;
      level = place t.levels.now;
      format = place t.formats.now;
      kind = place t.explained.now;
    }))
