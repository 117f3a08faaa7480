-- The judging of a file or a layout finds just what the papers' words say: nothing where it is good, and otherwise the first byte at which no good one could
-- continue, or the length where it merely stops short. The idea: bytes are good just where the output bytes that they stand for lead through right pages, and
-- whatever has been passed can be continued.
use Prim.Native.Nat.{ℕ, suc, ◌+◌, ◌≤◌, ◌<◌}
use mathlib.Core.Bool.{Bool, true, false, cond}
use mathlib.Core.List.{List, [], ◌∷◌, ◌++◌, map, append_assoc, append-nil}
use mathlib.Core.Logic.{◌↔◌}
use Rattle.std.specs.Prelude.{Option, None, Some}
use mathlib.Core.Path.{◌≡◌, refl, sym, ◌∙◌, ap, subst}
use native.Mathlib.Decide.{dec_lt}
use native.Mathlib.Numerals.{add-one}
use native.Mathlib.Omega.{arith}
use lib.ListN.{length, take, drop, get_or, take-append-drop}
use lib.Seq.{take-suc, take-take}
use Rattle.table.specs.Lists.{All, empty, ◌and◌}
use Rattle.table.proofs.Tests.{Tells, tells_and, tells_eq, fails_law}
use Rattle.pages.specs.Numbers.{page_mark}
use Rattle.pages.specs.Pages.{bytes_of_pages}
use Rattle.pages.specs.declared.Sheet.{Sheet}
use Rattle.embosser.specs.Chart.{written_as, stands_for}
use Rattle.embosser.specs.Judging.{start, at_start, stepped, wrong_from, wrong_at}
use Rattle.embosser.specs.Good.{bytes_as, Good, Continues, WrongAt, at_byte, stops_short}
use Rattle.embosser.specs.declared.Kind.{Kind}
use Rattle.embosser.specs.declared.Kind.TheVariants.{Layout, File}
use Rattle.embosser.specs.declared.Spot.{Spot}
use Rattle.embosser.proofs.Charts.{place_of_character, character_of_place}
use Rattle.embosser.proofs.Steps.{steps_told, start_fits}
use Rattle.embosser.proofs.Runs.{Runs, ended, further, runs_on, runs_apart, one_run, wrong_ends, run_marks, pages_run, Between-pages, run_made, run_fits, leads_on}

-- ---- A kind writes each output byte as one byte, and each that stands for one stands for that alone

module _ (kind : Kind) where
  pub stands_written : (b : ℕ) → b ≤ page_mark → stands_for kind (written_as kind b) ≡ b
  stands_written b h = go kind
    where
      go : (kind : Kind) → stands_for kind (written_as kind b) ≡ b
      go Layout = refl
      go File = place_of_character b (omega arith)

  pub written_stands : (c : ℕ) → stands_for kind c ≤ page_mark → written_as kind (stands_for kind c) ≡ c
  written_stands c = go kind
    where
      go : (kind : Kind) → stands_for kind c ≤ page_mark → written_as kind (stands_for kind c) ≡ c
      go Layout h = refl
      go File h = character_of_place c (omega arith)

  -- the output bytes that bytes stand for, and the bytes that output bytes are written as
  abbrev pub standing : List ℕ → List ℕ
  standing bytes = map (stands_for kind) bytes

  abbrev pub writing : List ℕ → List ℕ
  writing marks = map (written_as kind) marks

  pub standing_writing : {marks : List ℕ} → All (λ (b : ℕ). b ≤ page_mark) marks → standing (writing marks) ≡ marks
  standing_writing empty = refl
  standing_writing (◌and◌ {x = b} {xs = marks} h hs) = rw (stands_written b h, standing_writing hs)

  pub writing_standing : (bytes : List ℕ) → All (λ (b : ℕ). b ≤ page_mark) (standing bytes) → writing (standing bytes) ≡ bytes
  writing_standing [] empty = refl
  writing_standing (c ∷ bytes) (h and hs) = rw (written_stands c h, writing_standing bytes hs)

  standing_append : (xs ys : List ℕ) → standing (xs ++ ys) ≡ standing xs ++ standing ys
  standing_append [] ys = refl
  standing_append (x ∷ xs) ys = rw (standing_append xs ys)

-- ---- Good bytes are those that lead between two pages

module _ (kind : Kind) (sheet : Sheet) where
  -- a run over what bytes stand for
  abbrev pub Walks : Spot → List ℕ → Spot → Type 0
  Walks s bytes t = Runs sheet s (standing kind bytes) t

  pub record Walked (bytes : List ℕ) : Type 0 where
    pub end : Spot
    pub walks : Walks start bytes end
    pub between : Between-pages sheet end

  pub good_walked : {bytes : List ℕ} → Good kind sheet bytes → Walked bytes
  unfolding bytes_as
  good_walked {bytes} good =
      let run = pages_run sheet good.right in
      let same : standing kind bytes ≡ bytes_of_pages good.pages = ap (standing kind) good.written ∙ standing_writing kind (run_marks sheet run) in
      record { end = start; walks = subst (λ (marks : List ℕ). Runs sheet start marks start) (sym same) run; between = (refl, refl) }

  pub walked_good : {bytes : List ℕ} → Walked bytes → Good kind sheet bytes
  unfolding bytes_as
  walked_good {bytes} w =
      let made = run_made sheet w.walks w.between in
      record {
        pages = made.pages;
        right = made.right;
        written = sym (writing_standing kind bytes (run_marks sheet w.walks)) ∙ ap (writing kind) made.is;
      }

  -- ---- What can be continued

  -- bytes that a run goes through can be continued
  pub passed_continues : 0 < sheet.width → 0 < sheet.length → {bytes : List ℕ} {t : Spot} → Walks start bytes t → Continues kind sheet bytes
  passed_continues wide long {bytes} {t} walks =
      let on = leads_on sheet wide long t (run_fits sheet walks (start_fits sheet)) in
      let rest : List ℕ = writing kind on.rest in
      let same : standing kind (bytes ++ rest) ≡ standing kind bytes ++ on.rest =
      standing_append kind bytes rest ∙ ap (λ (marks : List ℕ). standing kind bytes ++ marks) (standing_writing kind (run_marks sheet on.runs)) in
      record {
        rest = rest;
        good =
            walked_good
            (record {
              end = start;
              walks = subst (λ (marks : List ℕ). Runs sheet start marks start) (sym same) (runs_on sheet walks on.runs);
              between = (refl, refl);
            });
      }

  -- a run goes through bytes that can be continued
  pub record Passed (bytes : List ℕ) : Type 0 where
    pub end : Spot
    pub walks : Walks start bytes end

  pub continues_passed : {bytes : List ℕ} → Continues kind sheet bytes → Passed bytes
  continues_passed {bytes} c =
      let w = good_walked c.good in
      let p = runs_apart sheet (standing kind bytes) (subst (λ (marks : List ℕ). Runs sheet start marks w.end) (standing_append kind bytes c.rest) w.walks) in
      record { end = p.between; walks = p.to }

  -- what stands before can be continued too
  pub continues_front : (n : ℕ) (bytes : List ℕ) → Continues kind sheet bytes → Continues kind sheet (take n bytes)
  continues_front n bytes c =
      record {
        rest = drop n bytes ++ c.rest;
        good =
            subst (Good kind sheet)
            (ap (λ (xs : List ℕ). xs ++ c.rest) (sym (take-append-drop n bytes)) ∙ append_assoc (take n bytes) (drop n bytes) c.rest)
            c.good;
      }

  good_continues : {bytes : List ℕ} → Good kind sheet bytes → Continues kind sheet bytes
  good_continues {bytes} good = record { rest = []; good = subst (Good kind sheet) (sym (append-nil bytes)) good }

  -- ---- A wrong file or layout is wrong in one place

  pub one_place : {bytes : List ℕ} {p q : ℕ} → WrongAt kind sheet bytes p → WrongAt kind sheet bytes q → p ≡ q
  one_place {bytes} (at_byte {at = p} l c no_more) (at_byte {at = q} m d no_more') = go (dec_lt p q) (dec_lt q p)
    where
      earlier : (a b : ℕ) → a < b → Continues kind sheet (take b bytes) → Continues kind sheet (take (a + 1) bytes)
      earlier a b h x = subst (Continues kind sheet) (take-take (a + 1) b bytes (omega arith)) (continues_front (a + 1) (take b bytes) x)

      go : Dec (p < q) → Dec (q < p) → p ≡ q
      go (yes h) e = absurd (no_more (earlier p q h d))
      go (no h) (yes g) = absurd (no_more' (earlier q p g c))
      go (no h) (no g) = omega arith
  one_place {bytes} (at_byte {at = p} l c no_more) (stops_short d not_good) = absurd (no_more (continues_front (p + 1) bytes d))
  one_place {bytes} (stops_short c not_good) (at_byte {at = q} m d no_more) = absurd (no_more (continues_front (q + 1) bytes c))
  one_place (stops_short c not_good) (stops_short d not_good') = refl

  -- a good one is wrong nowhere
  pub good_not_wrong : {bytes : List ℕ} {p : ℕ} → Good kind sheet bytes → WrongAt kind sheet bytes p → ⊥
  good_not_wrong {bytes} good (at_byte {at = p} l c no_more) = no_more (continues_front (p + 1) bytes (good_continues good))
  good_not_wrong good (stops_short c not_good) = not_good good

  -- ---- The judging, byte by byte

  tells_start : (s : Spot) → Tells (at_start s) (Between-pages sheet s)
  unfolding at_start
  tells_start s = tells_and (tells_eq s.column 0) (tells_eq s.line 0)

  -- what the judging of the bytes from a spot and a place on found
  data Found (s : Spot) (at : ℕ) (bytes : List ℕ) : Option ℕ → Type 0 where
    found_nothing : {t : Spot} → Walks s bytes t → Between-pages sheet t → Found s at bytes None
    found_byte : (k : ℕ) {t : Spot} → k < length bytes → Walks s (take k bytes) t → stepped sheet t (stands_for kind (get_or bytes k 0)) ≡ None
        → Found s at bytes (Some (at + k))
    found_short : {t : Spot} → Walks s bytes t → (Between-pages sheet t → ⊥) → Found s at bytes (Some (at + length bytes))

  wrong_here : (s : Spot) (at c : ℕ) (bytes : List ℕ) → stepped sheet s (stands_for kind c) ≡ None → wrong_from kind sheet s at (c ∷ bytes) ≡ Some at
  unfolding wrong_from
  wrong_here s at c bytes e = rw (e, wrong_from)

  wrong_further : (s : Spot) (at c : ℕ) (bytes : List ℕ) (t : Spot) → stepped sheet s (stands_for kind c) ≡ Some t
      → wrong_from kind sheet s at (c ∷ bytes) ≡ wrong_from kind sheet t (suc at) bytes
  unfolding wrong_from
  wrong_further s at c bytes t e = rw (e, wrong_from)

  one_further : {s t : Spot} {at c : ℕ} {bytes : List ℕ} {o : Option ℕ} → stepped sheet s (stands_for kind c) ≡ Some t → Found t (suc at) bytes o → Found s at (c ∷ bytes) o
  one_further {s} {t} {c} e (found_nothing walks done) = found_nothing (further (steps_told sheet s (stands_for kind c) t e) walks) done
  one_further {s} {t} {at} {c} {bytes} e (found_byte k l walks wrong) =
      subst (λ (n : ℕ). Found s at (c ∷ bytes) (Some n)) (omega arith)
      (found_byte (suc k) (omega arith) (further (steps_told sheet s (stands_for kind c) t e) walks) wrong)
  one_further {s} {t} {at} {c} {bytes} e (found_short walks not_done) =
      subst (λ (n : ℕ). Found s at (c ∷ bytes) (Some n)) (omega arith) (found_short (further (steps_told sheet s (stands_for kind c) t e) walks) not_done)

  found_from : (s : Spot) (at : ℕ) (bytes : List ℕ) → Found s at bytes (wrong_from kind sheet s at bytes)
  unfolding wrong_from
  found_from s at [] = go (at_start s) refl
    where
      go : (b : Bool) → at_start s ≡ b → Found s at [] (cond b None (Some at))
      go true e = found_nothing ended ((tells_start s).0 e)
      go false e = subst (λ (n : ℕ). Found s at [] (Some n)) (omega arith) (found_short ended ((fails_law (tells_start s)).0 e))
  found_from s at (c ∷ bytes) = go (stepped sheet s (stands_for kind c)) refl (λ t. found_from t (suc at) bytes)
    where
      go : (step : Option Spot) → stepped sheet s (stands_for kind c) ≡ step → ((t : Spot) → Found t (suc at) bytes (wrong_from kind sheet t (suc at) bytes))
          → Found s at (c ∷ bytes) (wrong_from kind sheet s at (c ∷ bytes))
      go None e later =
          subst (Found s at (c ∷ bytes)) (ap Some (omega arith) ∙ sym (wrong_here s at c bytes e)) (found_byte 0 (omega arith) ended e)
      go (Some t) e later = subst (Found s at (c ∷ bytes)) (sym (wrong_further s at c bytes t e)) (one_further e (later t))

  -- a byte that is found wrong isn't passed
  wrong_byte : (bytes : List ℕ) (k : ℕ) {t : Spot} → k < length bytes → Walks start (take k bytes) t → stepped sheet t (stands_for kind (get_or bytes k 0)) ≡ None
      → Passed (take (k + 1) bytes) → ⊥
  wrong_byte bytes k {t} l walks wrong passed =
      let c : ℕ = stands_for kind (get_or bytes k 0) in
      let split : standing kind (take (k + 1) bytes) ≡ standing kind (take k bytes) ++ c ∷ [] =
      rw (add-one k, take-suc bytes k 0 l) (standing_append kind (take k bytes) (get_or bytes k 0 ∷ [])) in
      wrong_ends sheet c walks wrong (subst (λ (marks : List ℕ). Runs sheet start marks passed.end) split passed.walks)

  -- ---- The judging finds what the papers say

  module _ (wide : 0 < sheet.width) (long : 0 < sheet.length) (bytes : List ℕ) where
    abbrev Says : Option ℕ → Type 0
    Says None = Good kind sheet bytes
    Says (Some at) = WrongAt kind sheet bytes at

    says : {o : Option ℕ} → Found start 0 bytes o → Says o
    says (found_nothing walks done) = walked_good (record { end = _; walks = walks; between = done })
    says (found_byte k l walks wrong) =
        subst (WrongAt kind sheet bytes) (omega arith)
        (at_byte l (passed_continues wide long walks) (λ c. wrong_byte bytes k l walks wrong (continues_passed c)))
    says (found_short walks not_done) = subst (WrongAt kind sheet bytes) (omega arith) (stops_short (passed_continues wide long walks) not_good)
      where
        not_good : Good kind sheet bytes → ⊥
        not_good good = let w = good_walked good in not_done (subst (Between-pages sheet) (one_run sheet w.walks walks) w.between)

    found_says : Says (wrong_at kind sheet bytes)
    unfolding wrong_at
    found_says = says (found_from start 0 bytes)

    -- nothing is found exactly where the bytes are good
    pub good_exactly_when : (wrong_at kind sheet bytes ≡ None) ↔ Good kind sheet bytes
    good_exactly_when = (λ e. subst Says e found_says, λ good. go good (wrong_at kind sheet bytes) refl found_says)
      where
        go : Good kind sheet bytes → (o : Option ℕ) → wrong_at kind sheet bytes ≡ o → Says o → wrong_at kind sheet bytes ≡ None
        go good None e h = e
        go good (Some at) e h = absurd (good_not_wrong good h)

    -- and a place exactly where they are wrong there
    pub wrong_exactly_when : (at : ℕ) → (wrong_at kind sheet bytes ≡ Some at) ↔ WrongAt kind sheet bytes at
    wrong_exactly_when at = (λ e. subst Says e found_says, λ wrong. go wrong (wrong_at kind sheet bytes) refl found_says)
      where
        go : WrongAt kind sheet bytes at → (o : Option ℕ) → wrong_at kind sheet bytes ≡ o → Says o → wrong_at kind sheet bytes ≡ Some at
        go wrong None e h = absurd (good_not_wrong h wrong)
        go wrong (Some q) e h = e ∙ ap Some (one_place h wrong)
