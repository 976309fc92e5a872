-- What the making of the events and the sweep over their spans promise.

-- Spans: the sweep over its spans
pub mod Spans
-- Events: the taken intervals' events as keys
pub mod Events
