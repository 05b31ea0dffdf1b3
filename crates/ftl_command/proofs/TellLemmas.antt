-- Text that is written piece by piece.
use Rattle.std.proofs.Common.{◌≡◌, ◌∙◌, [], ◌∷◌, ◌++◌, Option, Result, Ok, Err, OnErr, ap, sym, append_assoc, append-nil, codes, rules}
use Rattle.std.specs.Io.KnownBytes.{Appends}
use Rattle.fluent_serve.specs.Text.{Text, line_feed}
use Rattle.fluent_serve.specs.Waiting.{PutsFront}
use Rattle.fluent_serve.proofs.Exchange.{appends_trans}
use Rattle.ftl_command.specs.Program.{WritesFront}

-- the first piece was cut
pub front_of_piece : (held now : Option Text) (piece rest : Text) → PutsFront held piece now [] → WritesFront held now (piece ++ rest)
front_of_piece held now piece rest p = record {
  given = p.sent;
  written = p.written;
  front = record {
    back = p.front.back ++ rest;
    split = ap (λ s. s ++ rest) (sym (append-nil piece) ∙ p.front.split) ∙ append_assoc p.sent p.front.back rest;
  };
}

-- a later one was
pub front_after : (held mid now : Option Text) (piece rest : Text) → Appends held mid piece → WritesFront mid now rest → WritesFront held now (piece ++ rest)
front_after held mid now piece rest before p = record {
  given = piece ++ p.given;
  written = appends_trans held mid now piece p.given before p.written;
  front = record { back = p.front.back; split = ap (λ s. piece ++ s) p.front.split ∙ sym (append_assoc piece p.given p.front.back) };
}

pub front_at_end : (held now : Option Text) (piece : Text) → PutsFront held piece now [] → WritesFront held now piece
front_at_end held now piece p = record {
  given = p.sent;
  written = p.written;
  front = record { back = p.front.back; split = sym (append-nil piece) ∙ p.front.split };
}

pub on_err : {T E P : Type 0} (r : Result T E) → P → OnErr r P
on_err (Ok x) p = search rules
on_err (Err e) p = p

pub on_err_map : {T E P Q : Type 0} (r : Result T E) → (P → Q) → OnErr r P → OnErr r Q
on_err_map (Ok x) f p = search rules
on_err_map (Err e) f p = f p

-- the pieces of a line
pub line_of : (name text whole : Text) → name ++ text ≡ whole → codes "ftl: " ++ (name ++ (text ++ line_feed ∷ [])) ≡ codes "ftl: " ++ (whole ++ line_feed ∷ [])
line_of name text whole is = ap (λ s. codes "ftl: " ++ s) (sym (append_assoc name text (line_feed ∷ [])) ∙ ap (λ t. t ++ line_feed ∷ []) is)

-- what was cut is a front of more, too
pub front_of_more : (held now : Option Text) (piece rest : Text) → WritesFront held now piece → WritesFront held now (piece ++ rest)
front_of_more held now piece rest p = record {
  given = p.given;
  written = p.written;
  front = record { back = p.front.back ++ rest; split = ap (λ s. s ++ rest) p.front.split ∙ append_assoc p.given p.front.back rest };
}
