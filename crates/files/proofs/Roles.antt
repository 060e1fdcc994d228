-- Laws on the sections that a model of a version has: each role has one place among them, and some are in every
-- version.
use Prim.Native.Nat.{ℕ, zero, suc, ◌≤◌, ◌<◌}
use mathlib.Core.Path.{◌≡◌, refl, sym, ap, subst, ◌∙◌}
use mathlib.Core.Logic.{⊎_elim}
use mathlib.Core.Bool.{true, false, true≢false}
use mathlib.Core.List.{List, [], ◌∷◌, map}
use native.Mathlib.Nat.{not-suc-le-zero, le_of_suc-le-suc}
use native.Mathlib.Omega.{arith}
use borrow.Author.Tests.{lt-ltb, ltb-true, eqb-true, lt-leb, le-leb, eq-eqb, ne_eqb}
use lib.Dec.{ltb, eqb, lit<}
use lib.ListN.{length, get_or, length-map}
use Rattle.sets.proofs.Laws.{by-test, below_or_from}
use Rattle.records.specs.Words.{ascending}
use Rattle.records.specs.Records.{records}
use Rattle.records.proofs.Sections.{records-none}
use Rattle.lists.proofs.Sorted.{ascending-at}
use Rattle.sections.specs.Sections.{payload}
use Rattle.sections.specs.declared.Role.{Role}
use Rattle.sections.specs.declared.Role.TheVariants.{Sizes, Initial, Persistent, Names, Clauses, Rules, Goals}
use Rattle.sections.specs.declared.Role.TheVariants.{Formulas}
use Rattle.files.specs.Files.{since, roles, roles_of, tag, index_of, has, place_of_role, section_of}
use Rattle.files.specs.Files.{There}

-- ---- the versions

abbrev pub one : List Role
one = Sizes ∷ Initial ∷ Clauses ∷ Rules ∷ Goals ∷ []

abbrev pub two : List Role
two = Sizes ∷ Initial ∷ Persistent ∷ Clauses ∷ Rules ∷ Goals ∷ []

abbrev pub three : List Role
three = Sizes ∷ Initial ∷ Persistent ∷ Names ∷ Clauses ∷ Rules ∷ Goals ∷ []

abbrev pub four : List Role
four = Sizes ∷ Initial ∷ Persistent ∷ Names ∷ Clauses ∷ Rules ∷ Goals ∷ Formulas ∷ []

-- the sections of version 1, and so on
pub roles-one : (version : ℕ) → version < 2 → roles version ≡ one
unfolding roles since
roles-one version h = rw (lt-leb 2 version h, lt-leb 3 version (omega arith), lt-leb 4 version (omega arith))

pub roles-two : (version : ℕ) → 2 ≤ version → version < 3 → roles version ≡ two
unfolding roles since
roles-two version h l = rw (le-leb 2 version h, lt-leb 3 version l, lt-leb 4 version (omega arith))

pub roles-three : (version : ℕ) → 3 ≤ version → version < 4 → roles version ≡ three
unfolding roles since
roles-three version h l = rw (le-leb 2 version (omega arith), le-leb 3 version h, lt-leb 4 version l)

pub roles-four : (version : ℕ) → 4 ≤ version → roles version ≡ four
unfolding roles since
roles-four version h = rw (le-leb 2 version (omega arith), le-leb 3 version (omega arith), le-leb 4 version h)

-- What holds of the sections of each holds of every version's.
pub by-version : (P : List Role → Type 0) → P one → P two → P three → P four → (version : ℕ) → P (roles version)
by-version P first second third fourth version =
    ⊎_elim (λ h. rw (roles-one version h) first)
    (λ h.
    ⊎_elim (λ l. rw (roles-two version h l) second)
    (λ l.
    ⊎_elim (λ k. rw (roles-three version l k) third) (λ k. rw (roles-four version k) fourth)
    (below_or_from version 4))
    (below_or_from version 3))
    (below_or_from version 2)

-- the model has no section of the role, by the sections of its version
abbrev Lacks : Role → List Role → Type 0
Lacks r rs = ltb (index_of r rs) (length rs) ≡ false

-- Version 1 has no persistent facts;
pub one-lacks : (file : List ℕ) → get_or file 0 0 < 2 → has file Persistent ≡ false
unfolding has roles_of index_of tag
one-lacks file h = subst (Lacks Persistent) (sym (roles-one _ h)) refl

-- versions 1 and 2 have no names;
pub names-lacking : (file : List ℕ) → get_or file 0 0 < 3 → has file Names ≡ false
unfolding has roles_of index_of tag
names-lacking file h =
    ⊎_elim (λ l. subst (Lacks Names) (sym (roles-one _ l)) refl)
    (λ l. subst (Lacks Names) (sym (roles-two _ l h)) refl)
    (below_or_from (get_or file 0 0) 2)

-- versions 1 to 3 have no formulas.
pub formulas-lacking : (file : List ℕ) → get_or file 0 0 < 4 → has file Formulas ≡ false
unfolding has roles_of index_of tag
formulas-lacking file h =
    ⊎_elim (λ l. subst (Lacks Formulas) (sym (roles-one _ l)) refl)
    (λ l.
    ⊎_elim (λ k. subst (Lacks Formulas) (sym (roles-two _ l k)) refl)
    (λ k. subst (Lacks Formulas) (sym (roles-three _ k h)) refl)
    (below_or_from (get_or file 0 0) 3))
    (below_or_from (get_or file 0 0) 2)

-- the roles that every version has
pub record Always (rs : List Role) : Type 0 where
  pub sizes : index_of Sizes rs < length rs
  pub initial : index_of Initial rs < length rs
  pub clauses : index_of Clauses rs < length rs
  pub rules : index_of Rules rs < length rs
  pub goals : index_of Goals rs < length rs

pub always : (file : List ℕ) → Always (roles_of file)
unfolding roles_of index_of tag
always file =
    by-version Always
    (record { sizes = lit< tt; initial = lit< tt; clauses = lit< tt; rules = lit< tt; goals = lit< tt })
    (record { sizes = lit< tt; initial = lit< tt; clauses = lit< tt; rules = lit< tt; goals = lit< tt })
    (record { sizes = lit< tt; initial = lit< tt; clauses = lit< tt; rules = lit< tt; goals = lit< tt })
    (record { sizes = lit< tt; initial = lit< tt; clauses = lit< tt; rules = lit< tt; goals = lit< tt })
    (get_or file 0 0)

-- the roles that only later versions have
pub data Later : Role → Type 0 where
  persistent : Later Persistent
  names : Later Names
  formulas : Later Formulas

-- A role that isn't in a model's version is one of these.
pub absent-role : (file : List ℕ) (r : Role) → has file r ≡ false → Later r
unfolding has
absent-role file Sizes e = absurd (true≢false (sym (lt-ltb _ _ (always file).sizes) ∙ e))
absent-role file Initial e = absurd (true≢false (sym (lt-ltb _ _ (always file).initial) ∙ e))
absent-role file Persistent e = persistent
absent-role file Names e = names
absent-role file Clauses e = absurd (true≢false (sym (lt-ltb _ _ (always file).clauses) ∙ e))
absent-role file Rules e = absurd (true≢false (sym (lt-ltb _ _ (always file).rules) ∙ e))
absent-role file Goals e = absurd (true≢false (sym (lt-ltb _ _ (always file).goals) ∙ e))
absent-role file Formulas e = formulas

-- There are at most eight.
pub at-most-eight : (version : ℕ) → length (roles version) ≤ 8
at-most-eight = by-version (λ rs. length rs ≤ 8) (omega arith) (omega arith) (omega arith) (omega arith)

-- ---- a role and its place

-- the role of a number
tagged : (r : Role) → get_or four (tag r) Formulas ≡ r
unfolding tag
tagged Sizes = refl
tagged Initial = refl
tagged Persistent = refl
tagged Names = refl
tagged Clauses = refl
tagged Rules = refl
tagged Goals = refl
tagged Formulas = refl

-- Roles of one number are one role.
pub same-role : (r q : Role) → tag r ≡ tag q → r ≡ q
same-role r q e = sym (tagged r) ∙ ap (λ n. get_or four n Formulas) e ∙ tagged q

-- No place is past the last.
pub index-within : (r : Role) (rs : List Role) → index_of r rs ≤ length rs
unfolding index_of
index-within r [] = omega arith
index-within r (x ∷ xs) =
    by-test (eqb (tag r) (tag x)) (λ e. rw e (omega arith)) (λ e. rw e (omega (arith, index-within r xs)))

-- The role at a role's place is that role.
pub role-there : (rs : List Role) (r : Role) → index_of r rs < length rs → get_or rs (index_of r rs) Formulas ≡ r
unfolding index_of
role-there [] r h = absurd (not-suc-le-zero h)
role-there (x ∷ xs) r h =
    by-test (eqb (tag r) (tag x)) (λ e. rw e (sym (same-role r x (eqb-true _ _ e))))
    (λ e. rw e (role-there xs r (le_of_suc-le-suc (rw e at h))))

-- roles whose numbers rise
abbrev Rising : List Role → Type 0
Rising rs = (i j : ℕ) → i < j → j < length rs → tag (get_or rs i Formulas) < tag (get_or rs j Formulas)

-- The roles of every version are such.
rising : (version : ℕ) → Rising (roles version)
unfolding tag ascending
rising version i j l h =
    let rs = roles version in
    let sorted : ascending (map tag rs) ≡ true =
    by-version (λ rs. ascending (map tag rs) ≡ true) refl refl refl refl version in
    rw (← tag_at rs i (omega arith), ← tag_at rs j h) (ascending-at (map tag rs) sorted i j l (rw length-map h))
  where
    tag_at : (rs : List Role) (i : ℕ) → i < length rs → get_or (map tag rs) i 0 ≡ tag (get_or rs i Formulas)
    tag_at [] i h = absurd (not-suc-le-zero h)
    tag_at (r ∷ rs) zero h = refl
    tag_at (r ∷ rs) (suc i) h = tag_at rs i (le_of_suc-le-suc h)

-- The sections stand in the order of their roles.
pub in_order : (file : List ℕ) (q r : Role) → There file q → There file r → tag q < tag r
    → index_of q (roles_of file) < index_of r (roles_of file)
unfolding roles_of
in_order file q r there-q there-r less =
    ⊎_elim (λ h. h) (λ h. absurd (⊎_elim later (λ l. same (omega arith)) (below_or_from _ _))) (below_or_from _ _)
  where
    rs : List Role
    rs = roles_of file

    later : index_of r rs < index_of q rs → ⊥
    later h =
        let up = rising (get_or file 0 0) (index_of r rs) (index_of q rs) h there-q in
        omega (arith, rw (role-there rs r there-r, role-there rs q there-q) at up)

    same : index_of q rs ≡ index_of r rs → ⊥
    same e =
        let one-role = sym (role-there rs q there-q) ∙ ap (λ i. get_or rs i Formulas) e ∙ role-there rs r there-r in
        omega (arith, ap tag one-role)

-- The place of the role at a place is that place.
pub role-at : (version i : ℕ) → i < length (roles version)
    → index_of (get_or (roles version) i Formulas) (roles version) ≡ i
unfolding index_of
role-at version = at (roles version) (rising version)
  where
    at : (rs : List Role) → Rising rs → (i : ℕ) → i < length rs → index_of (get_or rs i Formulas) rs ≡ i
    at [] up i h = absurd (not-suc-le-zero h)
    at (r ∷ rs) up zero h = rw (eq-eqb (tag r) (tag r) refl)
    at (r ∷ rs) up (suc i) h =
        let less = up 0 (suc i) (omega arith) h in
        rw (ne_eqb (tag (get_or rs i Formulas)) (tag r) (λ e. omega arith))
        (ap suc (at rs (λ j k l b. up (suc j) (suc k) (omega arith) (omega arith)) i (le_of_suc-le-suc h)))

-- A role has the place of the section with its number;
pub found_at : (version i : ℕ) (r : Role) → i < length (roles version) → tag (get_or (roles version) i Formulas) ≡ tag r
    → index_of r (roles version) ≡ i
found_at version i r h e =
    ap (λ q. index_of q (roles version)) (sym (same-role (get_or (roles version) i Formulas) r e)) ∙ role-at version i h

-- where no section has it, the place after the last.
pub found_nowhere : (rs : List Role) (r : Role) → ((j : ℕ) → j < length rs → tag (get_or rs j Formulas) ≡ tag r → ⊥)
    → index_of r rs ≡ length rs
found_nowhere rs r none-there =
    ⊎_elim (λ h. absurd (none-there (index_of r rs) h (ap tag (role-there rs r h))))
    (λ h. omega (arith, index-within r rs)) (below_or_from (index_of r rs) (length rs))

-- ---- a role's section

module _ (file : List ℕ) (r : Role) where
  -- Where the model has a section of the role, it is what stands at its place;
  pub section-there : There file r → section_of file r ≡ payload file (place_of_role file r)
  unfolding section_of has
  section-there h = rw (lt-ltb _ _ h)

  -- where it has none, there is nothing.
  pub section-absent : has file r ≡ false → section_of file r ≡ []
  unfolding section_of
  section-absent e = rw e

  -- One of the two is so.
  pub there_or_absent : {C : Type 0} → (There file r → C) → (has file r ≡ false → C) → C
  unfolding has
  there_or_absent there absent = by-test (has file r) (λ e. there (ltb-true _ _ e)) absent

-- A section that has records is there.
pub record-there : (file : List ℕ) (r : Role) {k : ℕ} → k < length (records (section_of file r)) → There file r
record-there file r h =
    there_or_absent file r (λ there. there)
    (λ absent. absurd (not-suc-le-zero (rw (section-absent file r absent, records-none) at h)))

-- A place that there is has one role, whatever stands for none.
pub at_any : (rs : List Role) (i : ℕ) (d e : Role) → i < length rs → get_or rs i d ≡ get_or rs i e
at_any [] i d e h = absurd (not-suc-le-zero h)
at_any (r ∷ rs) zero d e h = refl
at_any (r ∷ rs) (suc i) d e h = at_any rs i d e (le_of_suc-le-suc h)
