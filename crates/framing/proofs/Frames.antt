-- What `framed` answers tells whether the frame is right, and where it is `locate` answers the same sections.
use Rattle.std.proofs.Common.{ℕ, List, Bool, true, false, ◌≡◌, refl, ◌∙◌, ap, Option, Some, None, unwrap_or}
use Rattle.table.specs.Sections.{frame_right, sections_in, sections_of, no_sections}
use Rattle.table.specs.declared.Sections.{Sections}
use Rattle.framing.specs.Promises.{sections_if_framed, Framed, Located}

module _ (image : List ℕ) where
  -- no sections in place of none are those of any image
  pub or_none : unwrap_or (sections_if_framed image) no_sections ≡ sections_of image
  unfolding sections_of
  or_none =
      elim (frame_right image) as (λ b. unwrap_or (elim b [ true ↦ Some (sections_in image) | false ↦ None ]) no_sections ≡ elim b [ true ↦ sections_in image | false ↦ no_sections ]) [
        | true ↦ refl
        | false ↦ refl
      ]

  pub framed_located : {s : Sections} → Framed image (Some s) → Located image s
  framed_located f = record { is = ap (λ (o : Option Sections). unwrap_or o no_sections) f.is ∙ or_none }

  pub framed_right : {s : Sections} → Framed image (Some s) → frame_right image ≡ true
  framed_right {s = s} f = go (frame_right image) refl
    where
      go : (b : Bool) → frame_right image ≡ b → frame_right image ≡ true
      go true e = e
      go false e = let z : ◌≡◌ {A = Option Sections} (Some s) None = f.is ∙ ap (λ b. elim b [ true ↦ Some (sections_in image) | false ↦ None ]) e in cc

  pub framed_wrong : Framed image None → frame_right image ≡ false
  framed_wrong f = go (frame_right image) refl
    where
      go : (b : Bool) → frame_right image ≡ b → frame_right image ≡ false
      go true e = let z : ◌≡◌ {A = Option Sections} None (Some (sections_in image)) = f.is ∙ ap (λ b. elim b [ true ↦ Some (sections_in image) | false ↦ None ]) e in cc
      go false e = e
